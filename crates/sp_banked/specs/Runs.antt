-- What a memory in banks does over time.
use Rattle.std.specs.Prelude.{◌≡◌, ℕ, suc, ◌+◌, ◌*◌, ◌<◌, ◌==◌, true, List, filter, All}
use Rattle.sp_bank.specs.Places.{IsInside, bank as bank_number, offset}
use Rattle.sp_netlist.specs.Signals.{Signals}
use Rattle.sp_gates.specs.Tested.{is_on}
use Rattle.sp_mem.specs.declared.part.Touch.{Touch}
use Rattle.sp_mem.specs.Copies.{copy_at}
use Rattle.sp_places.specs.Layouts.{banking_of}
use Rattle.sp_requests.specs.Elements.{element_at, element_after, AreServed}
use Rattle.sp_banked.specs.declared.part.Banked.{Banked}

-- the number of the bank in which an element of a copy stands, in one duplicate
abbrev pub number_of : Banked → (duplicate copy : ℕ) → (element : List ℕ) → ℕ
number_of part n copy x = part.bank + (n * (part.copies * part.layout.banks) + (copy * part.layout.banks + bank_number (banking_of part.layout) x))

-- the word of an element of a copy in a cycle
abbrev pub element_word : Signals → (cycle : ℕ) → Banked → (duplicate copy : ℕ) → (element : List ℕ) → ℕ
element_word s t part n copy x = s.bank t (number_of part n copy x) (offset (banking_of part.layout) part.layout.dims.items x)

-- the reads that one duplicate serves
abbrev pub reads_of : (duplicate : ℕ) → List Touch → List Touch
reads_of n reads = filter (λ r. r.duplicate == n) reads

-- each element of each copy is 0 in the beginning, and takes the word of the last write to it; and a read finds the word that its element had when it was
-- enabled, two cycles later
pub record RunsBanked (s : Signals) (part : Banked) : Type 0 where
  pub begins : (n copy : ℕ) (x : List ℕ) → n < part.duplicates → copy < part.copies → IsInside part.layout.dims.items x → element_word s 0 part n copy x ≡ 0
  pub goes : (t : ℕ) → AreServed s t part.layout part.writes.items → (n copy : ℕ) (x : List ℕ) → n < part.duplicates → copy < part.copies → IsInside part.layout.dims.items x
      → element_word s (suc t) part n copy x ≡ element_after s t copy part.writes.items x (element_word s t part n copy x)
  pub finds : (t n : ℕ) → AreServed s t part.layout (reads_of n part.reads.items)
      → All (λ r. is_on s r.enable t ≡ true → copy_at s t r.copy < part.copies → s.net (suc (suc t)) r.word ≡ element_word s t part n (copy_at s t r.copy) (element_at s t r)) (reads_of n part.reads.items)
