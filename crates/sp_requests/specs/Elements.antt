-- What accesses do to the elements of a memory.
use Rattle.std.specs.Prelude.{◌≡◌, ℕ, Bool, true, false, ◌&&◌, ◌==◌, if◌then◌else◌, ◌<◌, List, [], ◌∷◌, length, slice_index_or, All}
use Rattle.sp_bank.specs.Places.{IsInside, bank as bank_number}
use Rattle.sp_netlist.specs.Signals.{Signals}
use Rattle.sp_gates.specs.Tested.{is_on}
use Rattle.sp_mem.specs.declared.part.Touch.{Touch}
use Rattle.sp_mem.specs.Copies.{copy_at, is_at}
use Rattle.sp_places.specs.declared.layout.Layout.{Layout}
use Rattle.sp_places.specs.Layouts.{words_at, banking_of}

-- whether two elements have the same indices
abbrev pub are_same : List ℕ → List ℕ → Bool
are_same [] [] = true
are_same [] (y ∷ ys) = false
are_same (x ∷ xs) [] = false
are_same (x ∷ xs) (y ∷ ys) = (x == y) && are_same xs ys

-- the element of an access in a cycle
abbrev pub element_at : Signals → (cycle : ℕ) → Touch → List ℕ
element_at s t touch = words_at s t touch.index.items

-- the word of an element of a copy after the writes of this cycle; of several the last one's stays
abbrev pub element_after : Signals → (cycle copy : ℕ) → List Touch → (element : List ℕ) → (old : ℕ) → ℕ
element_after s t copy [] x old = old
element_after s t copy (w ∷ ws) x old = element_after s t copy ws x (if is_at s t w.enable w.copy copy && are_same (element_at s t w) x then s.net t w.word else old)

-- the accesses that are enabled in a cycle are at elements of the memory; and those at one copy and one bank are at one element
pub record AreServed (s : Signals) (cycle : ℕ) (l : Layout) (touches : List Touch) : Type 0 where
  pub inside : All (λ a. is_on s a.enable cycle ≡ true → IsInside l.dims.items (element_at s cycle a)) touches
  pub together : (i k : ℕ) (a : Touch) → i < length touches → k < length touches
      → is_on s (slice_index_or touches i a).enable cycle ≡ true → is_on s (slice_index_or touches k a).enable cycle ≡ true
      → copy_at s cycle (slice_index_or touches i a).copy ≡ copy_at s cycle (slice_index_or touches k a).copy
      → bank_number (banking_of l) (element_at s cycle (slice_index_or touches i a)) ≡ bank_number (banking_of l) (element_at s cycle (slice_index_or touches k a))
      → element_at s cycle (slice_index_or touches i a) ≡ element_at s cycle (slice_index_or touches k a)
