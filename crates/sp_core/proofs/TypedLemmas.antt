-- What lists of operands and of operations give.
use Rattle.std.proofs.Common.{◌≡◌, ℕ, zero, suc, Bool, true, false, List, [], ◌∷◌, map, length, ◌-◌, ◌&&◌, Option, Some, None, slice_get, refl, ap, subst, arith}
use Rattle.sp_words.specs.declared.types.Ty.{Ty}
use Rattle.sp_core.specs.declared.operation.Op.{Op}
use Rattle.sp_core.specs.Plain.{plain_op}
use Rattle.sp_core.specs.Typed.{Given, given_type, is_given, give_all, last_gives}

none_after : (b rest : Bool) → rest ≡ false → (b && rest) ≡ false
none_after true rest e = e
none_after false rest e = refl

pub give_all-lengths : (earlier : Given) (places : List ℕ) (types : List Ty) → (length places ≡ length types → ⊥) → give_all earlier places types ≡ false
give_all-lengths earlier [] [] h = absurd (h refl)
give_all-lengths earlier [] (t ∷ types) h = refl
give_all-lengths earlier (p ∷ places) [] h = refl
give_all-lengths earlier (p ∷ places) (t ∷ types) h = none_after _ _ (give_all-lengths earlier places types (λ e. h (omega (arith, e))))

abbrev op_gives : Ty → Option Op → Bool
op_gives ty (Some op) = is_given (given_type op.kind op.ty) ty
op_gives ty None = false

gives-at : (k : ℕ) (xs : List Op) (x : Op) (ty : Ty) → length xs ≡ suc k → slice_get xs k ≡ Some x → last_gives (map plain_op xs) ty ≡ is_given (given_type x.kind x.ty) ty
gives-at k [] x ty l e = absurd (omega (arith, l))
gives-at zero (y ∷ []) x ty l e = ap (op_gives ty) e
gives-at zero (y ∷ z ∷ rest) x ty l e = absurd (omega (arith, l))
gives-at (suc k) (y ∷ []) x ty l e = absurd (omega (arith, l))
gives-at (suc k) (y ∷ z ∷ rest) x ty l e = gives-at k (z ∷ rest) x ty (omega (arith, l)) e

pub gives-last : (xs : List Op) (x : Op) (ty : Ty) → slice_get xs (length xs - 1) ≡ Some x → last_gives (map plain_op xs) ty ≡ is_given (given_type x.kind x.ty) ty
gives-last [] x ty e = absurd (cc)
gives-last (y ∷ rest) x ty e = gives-at (length rest) (y ∷ rest) x ty (omega arith) (subst (λ k. slice_get (y ∷ rest) k ≡ Some x) (omega arith) e)
