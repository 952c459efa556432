-- When two forms are the same, as a test.
use Rattle.std.specs.Prelude.{◌≡◌, ℕ, ℤ, Bool, List, Option, Some, None, nat_eq, refl}
use Rattle.std.specs.Bool.{Decides}
use Rattle.std.specs.Cmp.{IsEquivalence}
use Rattle.std.specs.Cmp.Lexicographic.{pointwise}
use Rattle.std.specs.Cmp.Rules.{signed_items}
use Rattle.std.specs.Option.{option_eq}
use Rattle.std.specs.Ordering.{int_eq, on, eq_of_both}
use Rattle.std.proofs.Common.{ap, ◌∙◌, sym}
use Rattle.std.proofs.lemmas.Bool.Decides.{Decides-and, Decides-int_eq, Decides-eqb, Decides-like, same_from_decides}
use Rattle.sp_affine.specs.Affine.{Affine}

-- the coefficients, the constants and the symbols are equal
abbrev pub forms_equal : Affine → Affine → Bool
forms_equal =
    eq_of_both (on (λ f. f.coefs) (pointwise int_eq))
    (eq_of_both (on (λ f. f.constant) int_eq) (on (λ f. f.symbol) (option_eq nat_eq)))

pub Decides-option_eq : (p q : Option ℕ) → Decides (option_eq nat_eq p q) (p ≡ q)
Decides-option_eq None None = (λ _. refl, λ _. refl)
Decides-option_eq None (Some y) = (λ h. cc, λ h. cc)
Decides-option_eq (Some x) None = (λ h. cc, λ h. cc)
Decides-option_eq (Some x) (Some y) = (λ h. ap Some ((Decides-eqb x y).0 h), λ h. let e : x ≡ y = cc in (Decides-eqb x y).1 e)

same_form : (f g : Affine) → f.coefs ≡ g.coefs → f.constant ≡ g.constant → f.symbol ≡ g.symbol → f ≡ g
same_form f g a b c =
    let change_coefs : List ℤ → Affine = λ x. record { coefs = x; constant = f.constant; symbol = f.symbol } in
    let change_constant : ℤ → Affine = λ x. record { coefs = g.coefs; constant = x; symbol = f.symbol } in
    let change_symbol : Option ℕ → Affine = λ x. record { coefs = g.coefs; constant = g.constant; symbol = x } in
    ap change_coefs a ∙ ap change_constant b ∙ ap change_symbol c

pub Decides-forms_equal : (f g : Affine) → Decides (forms_equal f g) (f ≡ g)
Decides-forms_equal f g =
    let parts = Decides-and _ _ (signed_items f.coefs g.coefs) (Decides-and _ _ (Decides-int_eq f.constant g.constant) (Decides-option_eq f.symbol g.symbol)) in (
      λ h. let p = parts.0 h in same_form f g p.0 p.1.0 p.1.1,
      λ e. parts.1 (ap (λ x. x.coefs) e, (ap (λ x. x.constant) e, ap (λ x. x.symbol) e)),
    )

-- a test that decides whether two values are the same is an equivalence
Decides-equivalence : {X : Type 0} (E : X → X → Bool) → ((x y : X) → Decides (E x y) (x ≡ y)) → IsEquivalence E
Decides-equivalence {X} E d = record {
  refl = λ x. (d x x).1 refl;
  symm = λ x y. same_from_decides _ _ (d x y) (Decides-like _ sym sym (d y x));
  congr = λ x y z h. ap (λ (v : X). E v z) ((d x y).0 h);
}

pub forms_equal-equivalence : IsEquivalence forms_equal
forms_equal-equivalence = Decides-equivalence forms_equal Decides-forms_equal

-- the coefficients and the symbols are equal
abbrev pub linear_parts_equal : Affine → Affine → Bool
linear_parts_equal = eq_of_both (on (λ f. f.coefs) (pointwise int_eq)) (on (λ f. f.symbol) (option_eq nat_eq))

pub Decides-linear_parts_equal : (f g : Affine) → Decides (linear_parts_equal f g) ((f.coefs ≡ g.coefs) × (f.symbol ≡ g.symbol))
Decides-linear_parts_equal f g = Decides-and _ _ (signed_items f.coefs g.coefs) (Decides-option_eq f.symbol g.symbol)
