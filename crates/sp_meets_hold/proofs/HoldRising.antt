-- Numbers that rise along a list stand at one element each.
use Rattle.std.proofs.Common.{◌≡◌, ℕ, zero, suc, ◌≤◌, List, [], ◌∷◌, ◌++◌, sym, ap, ◌∙◌, subst, arith}
use Rattle.std.specs.List.{Contains}

-- an element of a list is its first one, or one of the others
pub cases : {A : Type 0} (P : A → Type 0) (x : A) (xs : List A) (y : A) → Contains (x ∷ xs) y → (x ≡ y → P y) → (Contains xs y → P y) → P y
cases P x xs y (zero, l, e) f g = f e
cases P x xs y (suc k, l, e) f g = g (k, omega arith, e)

module _ {A : Type 0} (f : A → ℕ) where
  -- from one number on, and up to another one
  abbrev pub Rising : ℕ → ℕ → List A → Type 0
  Rising n m [] = n ≤ m
  Rising n m (x ∷ xs) = (n ≤ f x) × Rising (suc (f x)) m xs

  pub from_less : (n k m : ℕ) (xs : List A) → n ≤ k → Rising k m xs → Rising n m xs
  from_less n k m [] l h = omega (arith, l, h)
  from_less n k m (x ∷ xs) l h = (let a = h.0 in omega (arith, l, a), h.1)

  pub both_rise : (n m k : ℕ) (xs ys : List A) → Rising n m xs → Rising m k ys → Rising n k (xs ++ ys)
  both_rise n m k [] ys h g = from_less n m k ys h g
  both_rise n m k (x ∷ xs) ys h g = (h.0, both_rise (suc (f x)) m k xs ys h.1 g)

  none_below : (n m : ℕ) (xs : List A) → Rising n m xs → (y : A) → Contains xs y → n ≤ f y
  none_below n m [] h y c = absurd (let l = c.1 in omega (arith, l))
  none_below n m (x ∷ xs) h y c = cases (λ y. n ≤ f y) x xs y c (λ e. subst (λ z. n ≤ f z) e h.0) (λ d. let a = h.0 in let b = none_below (suc (f x)) m xs h.1 y d in omega (arith, a, b))

  pub one_of : (n m : ℕ) (xs : List A) → Rising n m xs → (y z : A) → Contains xs y → Contains xs z → f y ≡ f z → y ≡ z
  one_of n m [] h y z c d e = absurd (let l = c.1 in omega (arith, l))
  one_of n m (x ∷ xs) h y z c d e =
      cases (λ y. f y ≡ f z → y ≡ z) x xs y c
      (λ first q. cases (λ z. f y ≡ f z → y ≡ z) x xs z d (λ second r. sym first ∙ second) (λ more r. absurd (let a = none_below (suc (f x)) m xs h.1 z more in let b = ap f first in omega (arith, a, b, r))) q)
      (λ others q. cases (λ z. f y ≡ f z → y ≡ z) x xs z d (λ second r. absurd (let a = none_below (suc (f x)) m xs h.1 y others in let b = ap f second in omega (arith, a, b, r))) (λ more r. one_of (suc (f x)) m xs h.1 y z others more r) q) e
