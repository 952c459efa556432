-- Words of a list.
use Rattle.std.proofs.Common.{◌≡◌, ℕ, zero, suc, List, [], ◌∷◌, Some, get_or}
use Rattle.std.specs.Prelude.{slice_get}

pub word_at : (xs : List ℕ) (i x : ℕ) → slice_get xs i ≡ Some x → get_or xs i 0 ≡ x
word_at [] i x e = absurd (cc)
word_at (y ∷ ys) zero x e = cc
word_at (y ∷ ys) (suc i) x e = word_at ys i x e
