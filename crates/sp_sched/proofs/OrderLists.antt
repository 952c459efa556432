-- Lists of orders as they grow.
use Rattle.std.proofs.Common.{◌≡◌, ℕ, suc, ◌+◌, ◌<◌, List, [], ◌∷◌, ◌++◌, map, length, slice_index_or, refl, ap, sym, ◌∙◌, append_assoc, add-one}
use Rattle.std.specs.List.{flat_map}
use Rattle.std.proofs.lemmas.List.{get_or-map}
use Rattle.sp_core.specs.declared.operation.Op.{Op}
use Rattle.sp_core.specs.Elements.{numbers_below}
use Rattle.sp_core.specs.Plain.{plain_op}
use Rattle.sp_core.specs.PlainCore.{PlainCore}
use Rattle.sp_plan.specs.Orders.{op_at, no_op}

pub op_at-is : (core : PlainCore) (ops : List Op) (j : ℕ) (d : Op) → j < length ops → op_at core (map plain_op ops) j ≡ plain_op (slice_index_or ops j d)
op_at-is core ops j d h = get_or-map plain_op ops j d no_op h

flat_map-append : {X Y : Type 0} (f : X → List Y) (xs ys : List X) → flat_map f (xs ++ ys) ≡ flat_map f xs ++ flat_map f ys
flat_map-append f [] ys = refl
flat_map-append f (x ∷ xs) ys = ap (λ r. f x ++ r) (flat_map-append f xs ys) ∙ sym (append_assoc (f x) (flat_map f xs) (flat_map f ys))

append-nil : {X : Type 0} (xs : List X) → xs ++ [] ≡ xs
append-nil [] = refl
append-nil (x ∷ xs) = ap (λ r. x ∷ r) (append-nil xs)

pub flat_map-suc : {Y : Type 0} (f : ℕ → List Y) (n : ℕ) → flat_map f (numbers_below (suc n)) ≡ flat_map f (numbers_below n) ++ f n
flat_map-suc f n = flat_map-append f (numbers_below n) (n ∷ []) ∙ ap (λ r. flat_map f (numbers_below n) ++ r) (append-nil (f n))

-- what is pushed for the next number
pub below_pushed : {Y : Type 0} (f : ℕ → List Y) (n : ℕ) (old now next : List Y) → now ≡ old ++ flat_map f (numbers_below n) → next ≡ now ++ f n → next ≡ old ++ flat_map f (numbers_below (n + 1))
below_pushed f n old now next e g =
    g ∙ ap (λ r. r ++ f n) e ∙ append_assoc old (flat_map f (numbers_below n)) (f n)
    ∙ ap (λ r. old ++ r) (sym (ap (λ k. flat_map f (numbers_below k)) (add-one n) ∙ flat_map-suc f n))
