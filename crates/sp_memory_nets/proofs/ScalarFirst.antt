-- The first one of a list of numbers.
use Rattle.std.proofs.Common.{◌≡◌, ℕ, ◌<◌, List, [], ◌∷◌, length, slice_index, slice_index_or, arith}

pub at_first : (ns : List ℕ) (n : ℕ) → 0 < length ns → n ≡ slice_index_or ns 0 n → n ≡ slice_index ns 0
at_first [] n l is = absurd (omega (arith, l))
at_first (x ∷ ns) n l is = is
