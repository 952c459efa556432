-- When counters can be emitted, and which nets they give.
use Rattle.std.specs.Prelude.{◌≡◌, true, ℕ, ◌<◌, ◌≤◌, ◌^◌, length, slice_index, All}
use Rattle.std.proofs.Common.{lit≤}
use Rattle.sp_words.specs.declared.types.Ty.{Ty}
use Rattle.sp_words.specs.declared.types.Ty.TheVariants.{Fix}
use Rattle.sp_netlist.specs.Draft.{Draft}
use Rattle.sp_gates.specs.Nets.{HasNet}
use Rattle.sp_counters.specs.declared.part.Count.{Count}
use Rattle.sp_counters.specs.declared.part.Counter.{Counter}
use Rattle.sp_counters.specs.declared.part.Counters.{Counters}
use Rattle.sp_counters.specs.declared.part.Counted.{Counted}
use Rattle.sp_counters.specs.Counting.{advance_of, lanes_of}

-- the type in which counters are compared: a lane past the end and a next value may pass 2 ^ 31
abbrev pub wide_type : Ty
wide_type = Fix (record { signed = true; whole = 64; frac = 0; has_bits = lit≤ tt; in_a_word = lit≤ tt })

pub record CountFits (d : Draft) (c : Count) : Type 0 where
  pub from : HasNet d c.from 32
  pub until : HasNet d c.until 32
  pub goes_on : 1 ≤ advance_of c
  pub small : advance_of c < 2 ^ 62

pub record CountersFit (d : Draft) (part : Counters) : Type 0 where
  pub start : HasNet d part.start 1
  pub step : HasNet d part.step 1
  pub counts : All (CountFits d) part.counters.items

-- a counter's word has 32 bits
abbrev pub IsCounter : Draft → Counter → Type 0
IsCounter d n = HasNet d n.value 32

-- there is a net for each value, each mask and whether there is a group
pub record AreCounted (d : Draft) (part : Counters) (nets : Counted) : Type 0 where
  pub values : All (IsCounter d) nets.counters.items
  pub lanes : length nets.masks.items ≡ lanes_of part.counters.items
  pub masks : (lane : ℕ) → lane < lanes_of part.counters.items → HasNet d (slice_index nets.masks.items lane) 1
  pub more : HasNet d nets.more 1
