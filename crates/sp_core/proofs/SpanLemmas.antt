-- The last span of a slice.
use Rattle.std.proofs.Common.{◌≡◌, ℕ, zero, suc, Bool, false, List, [], ◌∷◌, map, length, ◌-◌, Option, Some, None, slice_get, refl, ap, subst, arith}
use Rattle.sp_core.specs.declared.node.CoreSpan.{CoreSpan}
use Rattle.sp_core.specs.declared.node.CoreSpan.TheVariants.{One, Range}
use Rattle.sp_core.specs.NodeRules.{ends_in_range}
use Rattle.sp_core.specs.Plain.{plain_span}

abbrev is_range : Option CoreSpan → Bool
is_range (Some span) = ends_in_range (plain_span span ∷ [])
is_range None = false

ends-at : (k : ℕ) (xs : List CoreSpan) (x : CoreSpan) → length xs ≡ suc k → slice_get xs k ≡ Some x → ends_in_range (map plain_span xs) ≡ ends_in_range (plain_span x ∷ [])
ends-at k [] x l e = absurd (omega (arith, l))
ends-at zero (y ∷ []) x l e = ap is_range e
ends-at zero (y ∷ z ∷ rest) x l e = absurd (omega (arith, l))
ends-at (suc k) (y ∷ []) x l e = absurd (omega (arith, l))
ends-at (suc k) (y ∷ z ∷ rest) x l e = subst (λ b. b ≡ ends_in_range (plain_span x ∷ [])) (back y z rest) (ends-at k (z ∷ rest) x (omega (arith, l)) e)
  where
    back : (x y : CoreSpan) (rest : List CoreSpan) → ends_in_range (map plain_span (y ∷ rest)) ≡ ends_in_range (map plain_span (x ∷ y ∷ rest))
    back (One ops) y rest = refl
    back (Range a b) y rest = refl

pub ends-last : (xs : List CoreSpan) (x : CoreSpan) → slice_get xs (length xs - 1) ≡ Some x → ends_in_range (map plain_span xs) ≡ ends_in_range (plain_span x ∷ [])
ends-last [] x e = absurd (cc)
ends-last (y ∷ rest) x e = ends-at (length rest) (y ∷ rest) x (omega arith) (subst (λ k. slice_get (y ∷ rest) k ≡ Some x) (omega arith) e)
