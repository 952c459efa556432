-- Choices of bits, by whether they are 1.
use Rattle.std.proofs.Common.{◌≡◌, ℕ, ◌==◌, Bool, true, false, ◌&&◌, ◌||◌, not, if◌then◌else◌, refl, sym, ap, ◌∙◌}
use Rattle.std.proofs.lemmas.Bool.{cases_eq}

module _ (a b : ℕ) where
  pub both_on : ((if a == 1 then b else a) == 1) ≡ ((a == 1) && (b == 1))
  both_on = step (a == 1) refl
    where
      step : (t : Bool) → (a == 1) ≡ t → ((if t then b else a) == 1) ≡ (t && (b == 1))
      step true e = refl
      step false e = e

  pub either_on : ((if a == 1 then a else b) == 1) ≡ ((a == 1) || (b == 1))
  either_on = step (a == 1) refl
    where
      step : (t : Bool) → (a == 1) ≡ t → ((if t then a else b) == 1) ≡ (t || (b == 1))
      step true e = e
      step false e = refl

pub turned_on : (a off on : ℕ) → off ≡ 0 → on ≡ 1 → ((if a == 1 then off else on) == 1) ≡ not (a == 1)
turned_on a off on z o = step (a == 1)
  where
    step : (t : Bool) → ((if t then off else on) == 1) ≡ not t
    step true = ap (λ n. n == 1) z
    step false = ap (λ n. n == 1) o
