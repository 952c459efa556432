-- The lanes of counters, by the last one.
use Rattle.std.proofs.Common.{◌≡◌, ℕ, zero, suc, List, [], ◌∷◌, map, length, ◌-◌, Option, Some, None, slice_get, ap, subst, arith}
use Rattle.sp_core.specs.declared.node.CoreCounter.{CoreCounter}
use Rattle.sp_core.specs.Around.{lanes_of}
use Rattle.sp_core.specs.Plain.{plain_counter}

abbrev par_of : Option CoreCounter → ℕ
par_of (Some c) = c.par
par_of None = 0

lanes-at : (k : ℕ) (xs : List CoreCounter) (x : CoreCounter) → length xs ≡ suc k → slice_get xs k ≡ Some x → lanes_of (map plain_counter xs) ≡ x.par
lanes-at k [] x l e = absurd (omega arith)
lanes-at zero (y ∷ []) x l e = ap par_of e
lanes-at zero (y ∷ z ∷ rest) x l e = absurd (omega (arith, l))
lanes-at (suc k) (y ∷ []) x l e = absurd (omega (arith, l))
lanes-at (suc k) (y ∷ z ∷ rest) x l e = lanes-at k (z ∷ rest) x (omega (arith, l)) e

pub lanes-last : (xs : List CoreCounter) (x : CoreCounter) → slice_get xs (length xs - 1) ≡ Some x → lanes_of (map plain_counter xs) ≡ x.par
lanes-last [] x e = absurd (cc)
lanes-last (y ∷ rest) x e = lanes-at (length rest) (y ∷ rest) x (omega arith) (subst (λ k. slice_get (y ∷ rest) k ≡ Some x) (omega arith) e)
