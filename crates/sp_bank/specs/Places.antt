-- Where an element of a memory stands: its bank, and its place in the bank.
use Rattle.std.specs.Prelude.{ℕ, ◌+◌, ◌*◌, ◌/◌, ◌%◌, ◌<◌, List, [], ◌∷◌, slice_index}
use Rattle.std.specs.List.{remove}
use Rattle.std.specs.Int.{div_ceil}
use Rattle.sp_bank.specs.Banking.{Banking, period}

-- each number times the weight of its dimension, summed
abbrev pub weighted : List ℕ → List ℕ → ℕ
weighted [] xs = 0
weighted (a ∷ alpha) [] = 0
weighted (a ∷ alpha) (x ∷ xs) = a * x + weighted alpha xs

abbrev pub product_of : List ℕ → ℕ
product_of [] = 1
product_of (d ∷ dims) = d * product_of dims

-- an index for each dimension, and below its size
abbrev pub IsInside : List ℕ → List ℕ → Type 0
IsInside [] [] = Unit {0}
IsInside [] (x ∷ xs) = ⊥
IsInside (d ∷ dims) [] = ⊥
IsInside (d ∷ dims) (x ∷ xs) = (x < d) × IsInside dims xs

-- the number of an element in row-major order
abbrev pub row_major : List ℕ → List ℕ → ℕ
row_major [] xs = 0
row_major (d ∷ dims) [] = 0
row_major (d ∷ dims) (x ∷ xs) = x * product_of dims + row_major dims xs

-- floor(alpha·x / B) mod N
abbrev pub bank : Banking → List ℕ → ℕ
bank s x = (weighted s.alpha x / s.block) % s.banks

-- how many periods the hinge's dimension needs
abbrev pub periods : Banking → List ℕ → ℕ
periods s dims = div_ceil (slice_index dims s.hinge) (period s)

-- (lead · ceil(D/(N·B)) + floor(x/(N·B))) · B + alpha·x mod B, where D and x are the size and the index at the hinge, and lead is the row-major number of the other indices
abbrev pub offset : Banking → List ℕ → List ℕ → ℕ
offset s dims x =
    (row_major (remove dims s.hinge) (remove x s.hinge) * periods s dims + slice_index x s.hinge / period s) * s.block
    + weighted s.alpha x % s.block

-- how many places a bank has
abbrev pub bank_length : Banking → List ℕ → ℕ
bank_length s dims = product_of (remove dims s.hinge) * (periods s dims * s.block)
