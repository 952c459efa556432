-- What the pieces of counters give.
use Rattle.std.specs.Prelude.{◌≡◌, ℕ, suc, ◌*◌, ◌<◌, ◌^◌, pos, ◌+ℤ◌, ◌&&◌, int_lt, if◌then◌else◌, List, length, slice_index, All}
use Rattle.sp_words.specs.Types.{int_type}
use Rattle.sp_words.specs.Words.{wrap}
use Rattle.sp_netlist.specs.Draft.{Draft}
use Rattle.sp_netlist.specs.Signals.{Signals}
use Rattle.sp_gates.specs.Nets.{HasNet}
use Rattle.sp_gates.specs.Runs.{RunsOn}
use Rattle.sp_gates.specs.Tested.{is_on}
use Rattle.sp_counters.specs.declared.part.Count.{Count}
use Rattle.sp_counters.specs.declared.bounds.Bounds.{Bounds}
use Rattle.sp_counters.specs.declared.counter.One.{One}
use Rattle.sp_counters.specs.declared.part.Counter.{Counter}
use Rattle.sp_counters.specs.Counting.{number, low_number, is_last, are_last, have_values, lanes_of, is_below, Counts, AllCount}
use Rattle.sp_counters.specs.Fits.{IsCounter}

-- a net has the low 32 bits of a word, and a register takes them at the start
pub record KeepsLow (d : Draft) (start net now held : ℕ) : Type 0 where
  pub now_net : HasNet d now 32
  pub held_net : HasNet d held 32
  pub now_word : (s : Signals) → RunsOn s d.cells → (t : ℕ) → s.net t now ≡ wrap int_type (number s net t)
  pub held_fits : (s : Signals) → RunsOn s d.cells → (t : ℕ) → s.net t held < 2 ^ 32
  pub held_word : (s : Signals) → RunsOn s d.cells → (t : ℕ) → number s held (suc t) ≡ (if is_on s start t then low_number s net t else number s held t)

-- so are the bounds of a counter, and a net tells whether there is a value
pub record TakesBounds (d : Draft) (start : ℕ) (c : Count) (b : Bounds) : Type 0 where
  pub from : KeepsLow d start c.from b.first b.from
  pub until_net : HasNet d b.until 32
  pub until_fits : (s : Signals) → RunsOn s d.cells → (t : ℕ) → s.net t b.until < 2 ^ 32
  pub until_word : (s : Signals) → RunsOn s d.cells → (t : ℕ) → number s b.until (suc t) ≡ (if is_on s start t then low_number s c.until t else number s b.until t)
  pub some_net : HasNet d b.some 1
  pub some : (s : Signals) → RunsOn s d.cells → (t : ℕ) → is_on s b.some t ≡ int_lt (low_number s c.from t) (low_number s c.until t)

-- a counter with its nets, whether it has a value, and whether it has its last one
pub record CountsOne (d : Draft) (start goes : ℕ) (c : Count) (one : One) : Type 0 where
  pub value_net : HasNet d one.counter.value 32
  pub some_net : HasNet d one.some 1
  pub last_net : HasNet d one.last 1
  pub until_net : HasNet d one.counter.until 32
  pub counts : (s : Signals) → RunsOn s d.cells → Counts s (is_on s start) (is_on s goes) c one.counter
  pub until_fits : (s : Signals) → RunsOn s d.cells → (t : ℕ) → s.net t one.counter.until < 2 ^ 32
  pub some : (s : Signals) → RunsOn s d.cells → (t : ℕ) → is_on s one.some t ≡ int_lt (low_number s c.from t) (low_number s c.until t)
  pub last : (s : Signals) → RunsOn s d.cells → (t : ℕ) → is_on s one.last t ≡ is_last s c one.counter t

-- a net of 32 bits whose word has no more
pub record HasInt (d : Draft) (net : ℕ) : Type 0 where
  pub net_stands : HasNet d net 32
  pub fits : (s : Signals) → RunsOn s d.cells → (t : ℕ) → s.net t net < 2 ^ 32

-- for each of the first lanes a net that is 1 where its value is below the bound
pub record AreMasks (d : Draft) (c : Count) (n : Counter) (masks : List ℕ) (lanes : ℕ) : Type 0 where
  pub many : length masks ≡ lanes
  pub net : (lane : ℕ) → lane < lanes → HasNet d (slice_index masks lane) 1
  pub on : (s : Signals) → RunsOn s d.cells → (lane t : ℕ) → lane < lanes → is_on s (slice_index masks lane) t ≡ int_lt (number s n.value t +ℤ pos (lane * c.by)) (number s n.until t)

-- some counters: their nets, the masks of the last one, whether each has a value, and where all go past their last ones
pub record CountsAll (d : Draft) (start step : ℕ) (counts : List Count) (counters : List Counter) (masks : List ℕ) (all past : ℕ) : Type 0 where
  pub values : All (IsCounter d) counters
  pub lanes : length masks ≡ lanes_of counts
  pub mask_nets : (lane : ℕ) → lane < lanes_of counts → HasNet d (slice_index masks lane) 1
  pub all_net : HasNet d all 1
  pub past_net : HasNet d past 1
  pub each : (s : Signals) → RunsOn s d.cells → AllCount s (is_on s start) (is_on s step) counts counters
  pub all_on : (s : Signals) → RunsOn s d.cells → (t : ℕ) → is_on s all t ≡ have_values s counts t
  pub past_on : (s : Signals) → RunsOn s d.cells → (t : ℕ) → is_on s past t ≡ (is_on s step t && are_last s counts counters t)
  pub below : (s : Signals) → RunsOn s d.cells → (lane t : ℕ) → lane < lanes_of counts → is_on s (slice_index masks lane) t ≡ is_below s counts counters lane t
