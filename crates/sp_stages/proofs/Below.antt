-- Tests of the numbers below a bound, and of places in lists.
use Rattle.std.proofs.Common.{◌≡◌, ℕ, zero, suc, ◌<◌, ◌≤◌, ◌&&◌, ◌||◌, Bool, true, false, cond, List, [], ◌∷◌, ◌++◌, length, filter, map, get_or, refl, ap, sym, subst, ◌∙◌, ⊎_elim, ◌⊎◌, inl, inr, arith}
use Rattle.std.specs.List.{list_all, list_any}
use Rattle.std.proofs.lemmas.Bool.{cases_lt}
use Rattle.std.proofs.lemmas.List.{get_or_append_left, get_or_push, get_or-map, length_push}
use Rattle.std.proofs.lemmas.List.Folds.{list_all-append, list_any-append}
use Rattle.sp_core.specs.Elements.{numbers_below}

pub and_parts : (a b : Bool) → (a && b) ≡ true → (a ≡ true) × (b ≡ true)
and_parts true b h = (refl, h)
and_parts false b h = cc

pub and_both : (a b : Bool) → a ≡ true → b ≡ true → (a && b) ≡ true
and_both true b h k = k
and_both false b h k = cc

pub or_first : (a b : Bool) → a ≡ true → (a || b) ≡ true
or_first true b h = refl
or_first false b h = cc

pub or_second : (a b : Bool) → b ≡ true → (a || b) ≡ true
or_second true b h = refl
or_second false b h = h

pub or_cases : (a b : Bool) → (a || b) ≡ true → (a ≡ true) ⊎ (b ≡ true)
or_cases true b h = inl refl
or_cases false b h = inr h

pub if_true : (b x y : Bool) → b ≡ true → cond b x y ≡ true → x ≡ true
if_true true x y e h = h
if_true false x y e h = cc

pub if_false : (b x y : Bool) → b ≡ false → cond b x y ≡ true → y ≡ true
if_false true x y e h = cc
if_false false x y e h = h

pub if_both : (b x y : Bool) → (b ≡ true → x ≡ true) → (b ≡ false → y ≡ true) → cond b x y ≡ true
if_both true x y h k = h refl
if_both false x y h k = k refl

pub length-numbers : (n : ℕ) → length (numbers_below n) ≡ n
length-numbers zero = refl
length-numbers (suc n) = let h = length-numbers n in length_push (numbers_below n) n ∙ omega arith

-- and they are listed in order
pub number_at : (n k d : ℕ) → k < n → get_or (numbers_below n) k d ≡ k
number_at zero k d l = absurd (omega arith)
number_at (suc n) k d l = ⊎_elim
    (λ b. get_or_append_left (numbers_below n) (n ∷ []) d k (omega (arith, length-numbers n)) ∙ number_at n k d b)
    (λ b. let e : k ≡ n = omega arith in ap (λ j. get_or (numbers_below n ++ n ∷ []) j d) e ∙ get_or_push (numbers_below n) n d n (length-numbers n) ∙ sym e)
    (cases_lt k n)

-- the list of what a function gives for them
pub listed : (f : ℕ → ℕ) (n k : ℕ) → k < n → get_or (map f (numbers_below n)) k 0 ≡ f k
listed f n k lt = get_or-map f (numbers_below n) k 0 0 (omega (arith, length-numbers n)) ∙ ap f (number_at n k 0 lt)

pub all_at : (f : ℕ → Bool) (n : ℕ) → list_all f (numbers_below n) ≡ true → (k : ℕ) → k < n → f k ≡ true
all_at f zero h k lt = absurd (omega arith)
all_at f (suc n) h k lt =
    let parts = and_parts (list_all f (numbers_below n)) (f n && true) (sym (list_all-append f (numbers_below n) (n ∷ [])) ∙ h) in
    ⊎_elim (λ b. all_at f n parts.0 k b)
    (λ b. let e : n ≡ k = omega arith in subst (λ j. f j ≡ true) e (and_parts (f n) true parts.1).0)
    (cases_lt k n)

pub all_from : (f : ℕ → Bool) (n : ℕ) → ((k : ℕ) → k < n → f k ≡ true) → list_all f (numbers_below n) ≡ true
all_from f zero h = refl
all_from f (suc n) h =
    list_all-append f (numbers_below n) (n ∷ [])
    ∙ and_both _ _ (all_from f n (λ k lt. h k (omega arith))) (and_both _ _ (h n (omega arith)) refl)

pub any_from : (f : ℕ → Bool) (n k : ℕ) → k < n → f k ≡ true → list_any f (numbers_below n) ≡ true
any_from f zero k lt h = absurd (omega arith)
any_from f (suc n) k lt h =
    list_any-append f (numbers_below n) (n ∷ [])
    ∙ ⊎_elim (λ b. or_first _ _ (any_from f n k b h))
    (λ b. let e : k ≡ n = omega arith in or_second _ _ (or_first _ _ (subst (λ j. f j ≡ true) e h)))
    (cases_lt k n)

pub record IsFound (f : ℕ → Bool) (n : ℕ) : Type 0 where
  pub place : ℕ
  pub below : place < n
  pub found : f place ≡ true

last_found : (b : Bool) → (b || false) ≡ true → b ≡ true
last_found true e = refl
last_found false e = e

pub any_at : (f : ℕ → Bool) (n : ℕ) → list_any f (numbers_below n) ≡ true → IsFound f n
any_at f zero h = absurd (cc)
any_at f (suc n) h = ⊎_elim
    (λ e. let k = any_at f n e in record { place = k.place; below = (let b = k.below in omega arith); found = k.found })
    (λ e. record { place = n; below = omega arith; found = last_found (f n) e })
    (or_cases (list_any f (numbers_below n)) (f n || false) (sym (list_any-append f (numbers_below n) (n ∷ [])) ∙ h))

pub record IsFoundIn {A : Type 0} (f : A → Bool) : Type 0 where
  pub item : A
  pub found : f item ≡ true

pub found_in : {A : Type 0} (f : A → Bool) (xs : List A) → list_any f xs ≡ true → IsFoundIn f
found_in f [] h = absurd (cc)
found_in f (x ∷ xs) h = ⊎_elim (λ e. record { item = x; found = e }) (λ e. found_in f xs e) (or_cases (f x) (list_any f xs) h)

-- what passes a test
pub filter_most : {A : Type 0} (f : A → Bool) (xs : List A) → length (filter f xs) ≤ length xs
filter_most f [] = omega arith
filter_most f (x ∷ xs) = let h = filter_most f xs in elim (f x) as (λ b. length (cond b (x ∷ filter f xs) (filter f xs)) ≤ suc (length xs)) [ true ↦ omega arith | false ↦ omega arith ]

-- where one element doesn't
pub filter_fewer : {A : Type 0} (f : A → Bool) (xs : List A) (i : ℕ) (d : A) → i < length xs → f (get_or xs i d) ≡ false → length (filter f xs) < length xs
filter_fewer f [] i d lt e = absurd (omega arith)
filter_fewer f (x ∷ xs) zero d lt e = let h = filter_most f xs in subst (λ b. length (cond b (x ∷ filter f xs) (filter f xs)) < suc (length xs)) (sym e) (omega arith)
filter_fewer f (x ∷ xs) (suc i) d lt e =
    let h = filter_fewer f xs i d (omega arith) e in
    elim (f x) as (λ b. length (cond b (x ∷ filter f xs) (filter f xs)) < suc (length xs)) [ true ↦ omega arith | false ↦ omega arith ]
