-- Searches of joined lists.
use Rattle.std.proofs.Common.{◌≡◌, ℕ, ◌++◌, ◌||◌, Bool, true, false, List, [], ◌∷◌, refl, ◌∙◌, ap}
use Rattle.std.specs.Prelude.{◌==◌}
use Rattle.sp_tree.specs.Tallies.{is_among}

or_more : (b c d : Bool) → (b || (c || d)) ≡ ((b || c) || d)
or_more true c d = refl
or_more false c d = refl

pub among_both : (m : ℕ) (xs ys : List ℕ) → is_among m (xs ++ ys) ≡ (is_among m xs || is_among m ys)
among_both m [] ys = refl
among_both m (x ∷ xs) ys = ap (λ b. (x == m) || b) (among_both m xs ys) ∙ or_more (x == m) (is_among m xs) (is_among m ys)
