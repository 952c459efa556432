-- What a memory does over time.
use Rattle.std.specs.Prelude.{◌≡◌, ℕ, suc, ◌<◌, List, slice_index, All}
use Rattle.sp_netlist.specs.Signals.{Signals}
use Rattle.sp_mem.specs.declared.part.Touch.{Touch}
use Rattle.sp_mem.specs.declared.part.Register.{Register}
use Rattle.sp_mem.specs.Copies.{copy_at, freshened, written, first_word}

-- A net holds a copy of the register: it begins with the first word, and from each cycle to the next is made fresh, written or
-- left; a write goes before making it fresh.
pub record RunsCopy (s : Signals) (part : Register) (copy net : ℕ) : Type 0 where
  pub begins : s.net 0 net ≡ first_word part.first
  pub goes : (t : ℕ) → s.net (suc t) net ≡ written s t copy part.writes.items (freshened s t copy (first_word part.first) part.fresh.items (s.net t net))

-- a reader's net has the word that the copy, of the number in that cycle, had a cycle before
abbrev pub RunsReader : Signals → (copies : ℕ) → (nets : List ℕ) → Touch → Type 0
RunsReader s copies nets r = (t copy : ℕ) → copy < copies → copy_at s t r.copy ≡ copy → s.net (suc t) r.word ≡ s.net t (slice_index nets copy)

pub record RunsRegister (s : Signals) (part : Register) (nets : List ℕ) : Type 0 where
  pub copies : (copy : ℕ) → copy < part.copies → RunsCopy s part copy (slice_index nets copy)
  pub reads : All (RunsReader s part.copies nets) part.reads.items
