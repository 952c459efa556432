-- Lists of times, time by time.
use Rattle.std.proofs.Common.{◌≡◌, ℕ, zero, suc, ◌<◌, ◌≤◌, List, [], ◌∷◌, length, slice_index, arith}
use Rattle.sp_modulo.specs.Times.{IsNoLater}

-- as many times, each of which is no later
pub no_later-from : (xs ys : List ℕ) → length xs ≡ length ys → ((i : ℕ) → i < length xs → slice_index xs i ≤ slice_index ys i) → IsNoLater xs ys
no_later-from [] ys e h i = omega arith
no_later-from (x ∷ xs) [] e h i = absurd (omega arith)
no_later-from (x ∷ xs) (y ∷ ys) e h zero = h 0 (omega arith)
no_later-from (x ∷ xs) (y ∷ ys) e h (suc i) = no_later-from xs ys (omega arith) (λ j lt. h (suc j) (omega arith)) i
