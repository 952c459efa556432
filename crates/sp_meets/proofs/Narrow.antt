-- A number that is made narrow.
use Rattle.std.proofs.Common.{◌≡◌, ℤ, pos, negsuc, ◌^◌, Bool, true, false, ap, sym, ◌∙◌, subst, FitsSigned, refl}
use Rattle.std.specs.Prelude.{Some, None, Result, Ok, Err, if◌then◌else◌}
use Rattle.std.specs.Bool.{Decides}
use Rattle.std.specs.Int.{Width, w32}
use Rattle.std.specs.Result.{OkIff, result_ok}
use Rattle.std.proofs.lemmas.Bool.Decides.{Decides-ltb, Decides-like}
use Rattle.sp_patterns.specs.Ranges.{fits_int}

pub fits_int_decides : (z : ℤ) → Decides (fits_int z) (FitsSigned w32 z)
unfolding fits_int
fits_int_decides (pos n) = Decides-like _ (λ h. record { sfits = h }) (λ h. h.sfits) (Decides-ltb n (2 ^ 31))
fits_int_decides (negsuc n) = Decides-like _ (λ h. record { sfits = h }) (λ h. h.sfits) (Decides-ltb n (2 ^ 31))

pub narrowed : {E : Type 0} (w : Width) (r : Result ℤ E) (z v : ℤ) (b : Bool) → Decides b (FitsSigned w z) → v ≡ z → OkIff r (FitsSigned w v) v → result_ok r ≡ (if b then Some z else None)
narrowed w (Ok x) z v b d e h = ap Some (h.1 ∙ e) ∙ sym (ap (λ t. if t then Some z else None) (d.1 (subst (FitsSigned w) e h.0)))
narrowed w (Err x) z v true d e h = absurd (h (subst (FitsSigned w) (sym e) (d.0 refl)))
narrowed w (Err x) z v false d e h = refl
