-- The form that a combination of forms is, where it is one.
use Rattle.std.proofs.Common.{◌≡◌, ℕ, ℤ, pos, negsuc, ◌^◌, Bool, true, false, ◌&&◌, List, refl, ap, sym, ◌∙◌, subst, FitsSigned}
use Rattle.std.specs.Prelude.{Option, Some, None, Result, Ok, Err, if◌then◌else◌}
use Rattle.std.specs.Bool.{Decides}
use Rattle.std.specs.Int.{Width, w32, w64}
use Rattle.std.specs.List.{list_all}
use Rattle.std.specs.Result.{OkIff, result_ok}
use Rattle.std.proofs.lemmas.Bool.Decides.{Decides-and, Decides-by_and, Decides-ltb, Decides-like}
use Rattle.sp_affine.specs.Affine.{Affine}
use Rattle.sp_affine.specs.Combination.{Combination, IsNarrow, HasOneSymbol, Equals}
use Rattle.sp_patterns.specs.Forms.{fits, held}
use Rattle.sp_patterns.specs.Ranges.{fits_int}
use Rattle.sp_patterns.proofs.Symbols.{Tells}

pub fits_decides : (z : ℤ) → Decides (fits z) (FitsSigned w64 z)
unfolding fits
fits_decides (pos n) = Decides-like _ (λ h. record { sfits = h }) (λ h. h.sfits) (Decides-ltb n (2 ^ 63))
fits_decides (negsuc n) = Decides-like _ (λ h. record { sfits = h }) (λ h. h.sfits) (Decides-ltb n (2 ^ 63))

narrow_decides : (t : Combination) → Decides (list_all fits t.coefs && fits t.constant) (IsNarrow t)
narrow_decides t = Decides-and _ _ (Decides-by_and fits (FitsSigned w64) (list_all fits) fits_decides refl (λ _ _. refl) t.coefs) (fits_decides t.constant)

module _ (left : Option (Option ℕ)) (t : Combination) where
  pub is_held : (f : Affine) → Tells left t.factor → Equals f t → IsNarrow t → Some f ≡ held t.coefs t.constant left
  is_held f tells e narrow =
      ap Some (same f (record { coefs = t.coefs; constant = t.constant; symbol = f.symbol }) e.coefs e.constant refl)
      ∙ sym (ap (held t.coefs t.constant) (tells.is_left f.symbol e.factors) ∙ passed _ _ ((narrow_decides t).1 narrow))
    where
      same : (f g : Affine) → f.coefs ≡ g.coefs → f.constant ≡ g.constant → f.symbol ≡ g.symbol → f ≡ g
      same f g a b c =
          let coefs : List ℤ → Affine = λ x. record { coefs = x; constant = f.constant; symbol = f.symbol } in
          let constant : ℤ → Affine = λ x. record { coefs = g.coefs; constant = x; symbol = f.symbol } in
          let symbol : Option ℕ → Affine = λ x. record { coefs = g.coefs; constant = g.constant; symbol = x } in
          ap coefs a ∙ ap constant b ∙ ap symbol c

      passed : (b : Bool) (x : Option Affine) → b ≡ true → (if b then x else None) ≡ x
      passed b x e = ap (λ v. if v then x else None) e

  pub none_by_width : ¬ IsNarrow t → None ≡ held t.coefs t.constant left
  none_by_width h = by_symbol left
    where
      failed : (b : Bool) (x : Option Affine) → Decides b (IsNarrow t) → None ≡ (if b then x else None)
      failed true x d = absurd (h (d.0 refl))
      failed false x d = refl

      by_symbol : (o : Option (Option ℕ)) → None ≡ held t.coefs t.constant o
      by_symbol None = refl
      by_symbol (Some s) = failed _ _ (narrow_decides t)

  pub none_by_symbols : Tells left t.factor → ¬ HasOneSymbol t.factor → None ≡ held t.coefs t.constant left
  none_by_symbols tells h = by_symbol left refl
    where
      by_symbol : (o : Option (Option ℕ)) → left ≡ o → None ≡ held t.coefs t.constant left
      by_symbol None e = sym (ap (held t.coefs t.constant) e)
      by_symbol (Some s) e = absurd (h (s, tells.has s e))

pub fits_int_decides : (z : ℤ) → Decides (fits_int z) (FitsSigned w32 z)
unfolding fits_int
fits_int_decides (pos n) = Decides-like _ (λ h. record { sfits = h }) (λ h. h.sfits) (Decides-ltb n (2 ^ 31))
fits_int_decides (negsuc n) = Decides-like _ (λ h. record { sfits = h }) (λ h. h.sfits) (Decides-ltb n (2 ^ 31))

-- a number that is made narrow
pub narrowed : {E : Type 0} (w : Width) (r : Result ℤ E) (z v : ℤ) (b : Bool) → Decides b (FitsSigned w z) → v ≡ z → OkIff r (FitsSigned w v) v → result_ok r ≡ (if b then Some z else None)
narrowed w (Ok x) z v b d e h = ap Some (h.1 ∙ e) ∙ sym (ap (λ t. if t then Some z else None) (d.1 (subst (FitsSigned w) e h.0)))
narrowed w (Err x) z v true d e h = absurd (h (subst (FitsSigned w) (sym e) (d.0 refl)))
narrowed w (Err x) z v false d e h = refl
