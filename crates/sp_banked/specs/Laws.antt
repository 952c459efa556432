-- Laws of memories in banks.
use Rattle.std.specs.Prelude.{◌≡◌, ℕ, zero, suc, ◌<◌, true, List, All}
use Rattle.sp_bank.specs.Places.{IsInside}
use Rattle.sp_netlist.specs.Signals.{Signals}
use Rattle.sp_gates.specs.Tested.{is_on}
use Rattle.sp_mem.specs.Copies.{copy_at}
use Rattle.sp_requests.specs.Elements.{element_at, element_after, AreServed}
use Rattle.sp_banked.specs.declared.part.Banked.{Banked}
use Rattle.sp_banked.specs.Runs.{element_word, reads_of, RunsBanked}

-- the array that a copy holds in a cycle, by the writes before it alone
abbrev pub contents : Signals → Banked → (copy cycle : ℕ) → (element : List ℕ) → ℕ
contents s part copy zero x = 0
contents s part copy (suc t) x = element_after s t copy part.writes.items x (contents s part copy t x)

-- the writes of all cycles before this one are served
abbrev pub WritesServed : Signals → Banked → (cycle : ℕ) → Type 0
WritesServed s part t = (u : ℕ) → u < t → AreServed s u part.layout part.writes.items

pub record BankedLaws : Type 0 where
  -- each duplicate holds the array
  pub holds : (s : Signals) (part : Banked) → RunsBanked s part → (t : ℕ) → WritesServed s part t → (n copy : ℕ) (x : List ℕ) → n < part.duplicates → copy < part.copies → IsInside part.layout.dims.items x
      → element_word s t part n copy x ≡ contents s part copy t x
  -- and each read finds its element's word there
  pub finds : (s : Signals) (part : Banked) → RunsBanked s part → (t n : ℕ) → n < part.duplicates → WritesServed s part t → AreServed s t part.layout (reads_of n part.reads.items)
      → All (λ r. is_on s r.enable t ≡ true → copy_at s t r.copy < part.copies → s.net (suc (suc t)) r.word ≡ contents s part (copy_at s t r.copy) t (element_at s t r)) (reads_of n part.reads.items)
