-- Lists whose elements go together, and the operands of a write.
use Rattle.std.proofs.Common.{◌≡◌, ℕ, zero, suc, ◌-◌, ◌<◌, List, [], ◌∷◌, ◌++◌, length, map, take, slice_index, refl, ap, subst, arith}
use Rattle.std.specs.List.{AllZip, Contains}

-- by a number of each element of the one list
pub numbers_zip : {A B : Type 0} (f : A → ℕ) (Q : A → B → Type 0) (R : ℕ → B → Type 0) (xs : List A) (ys : List B) → ((x : A) (y : B) → Contains xs x → Q x y → R (f x) y) → AllZip Q xs ys → AllZip R (map f xs) ys
numbers_zip f Q R [] [] g h = tt
numbers_zip f Q R [] (y ∷ ys) g h = absurd h
numbers_zip f Q R (x ∷ xs) [] g h = absurd h
numbers_zip f Q R (x ∷ xs) (y ∷ ys) g h = (g x y (0, omega arith, refl) h.0, numbers_zip f Q R xs ys (λ z u c. g z u (let l = c.1 in (suc c.0, omega (arith, l), c.2))) h.1)

-- what stands at the place of an element of the one list
pub both_at : {A B : Type 0} (f : A → ℕ) (Q : A → B → Type 0) (R : ℕ → B → Type 0) (xs : List A) (ys : List B) → AllZip Q xs ys → AllZip R (map f xs) ys → (x : A) → Contains xs x → (y : B) × Q x y × R (f x) y
both_at f Q R [] ys h g x (k, l, e) = absurd (omega (arith, l))
both_at f Q R (z ∷ xs) [] h g x c = absurd h
both_at f Q R (z ∷ xs) (y ∷ ys) h g x (zero, l, e) = (y, subst (λ u. Q u y) e h.0, subst (λ u. R (f u) y) e g.0)
both_at f Q R (z ∷ xs) (y ∷ ys) h g x (suc k, l, e) = both_at f Q R xs ys h.1 g.1 x (k, omega (arith, l), e)

ends_at : (ws : List ℕ) (n : ℕ) → length ws ≡ suc n → take n ws ++ slice_index ws n ∷ [] ≡ ws
ends_at [] n e = absurd (omega (arith, e))
ends_at (x ∷ []) zero e = refl
ends_at (x ∷ []) (suc n) e = absurd (omega (arith, e))
ends_at (x ∷ (y ∷ ws)) zero e = absurd (omega (arith, e))
ends_at (x ∷ (y ∷ ws)) (suc n) e = ap (λ zs. x ∷ zs) (ends_at (y ∷ ws) n (omega (arith, e)))

-- all but the last word, and then the last one
pub ends : (ws : List ℕ) → 0 < length ws → take (length ws - 1) ws ++ slice_index ws (length ws - 1) ∷ [] ≡ ws
ends ws l = ends_at ws (length ws - 1) (omega (arith, l))
