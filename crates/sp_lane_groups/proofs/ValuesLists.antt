-- Lists that are joined end to end, and numbers below a bound, so many at a time.
use Rattle.std.proofs.Common.{◌≡◌, ℕ, zero, suc, ◌+◌, ◌-◌, ◌*◌, ◌<◌, ◌≤◌, Bool, true, false, cond, ◌⊎◌, List, [], ◌∷◌, ◌++◌, map, inl, inr, arith, refl, sym, ap, ◌∙◌, subst}
use Rattle.std.proofs.lemmas.Bool.{cases_lt}
use Rattle.std.proofs.lemmas.List.{append_assoc, map-append}
use Rattle.std.proofs.lemmas.List.Concat.{flat_map-append}
use Rattle.std.proofs.lemmas.List.Elements.{filter-append}
use Rattle.std.specs.Prelude.{filter, flat_map}
use Rattle.sp_core.specs.Elements.{numbers_below}

pub append_none : {A : Type 0} (xs : List A) → xs ++ [] ≡ xs
append_none [] = refl
append_none (x ∷ xs) = ap (λ ys. x ∷ ys) (append_none xs)

pub map_two : {A B C : Type 0} (f : B → C) (g : A → B) (k : A → C) → ((x : A) → f (g x) ≡ k x) → (xs : List A) → map f (map g xs) ≡ map k xs
map_two f g k h [] = refl
map_two f g k h (x ∷ xs) = ap (λ y. y ∷ map f (map g xs)) (h x) ∙ ap (λ ys. k x ∷ ys) (map_two f g k h xs)

pub map_flat : {X A B : Type 0} (f : A → B) (g : X → List A) (k : X → List B) → ((x : X) → map f (g x) ≡ k x) → (xs : List X) → map f (flat_map g xs) ≡ flat_map k xs
map_flat f g k h [] = refl
map_flat f g k h (x ∷ xs) = map-append f (g x) (flat_map g xs) ∙ ap (λ ys. ys ++ map f (flat_map g xs)) (h x) ∙ ap (λ ys. k x ++ ys) (map_flat f g k h xs)

pub flat_flat : {X A B : Type 0} (f : A → List B) (g : X → List A) (k : X → List B) → ((x : X) → flat_map f (g x) ≡ k x) → (xs : List X) → flat_map f (flat_map g xs) ≡ flat_map k xs
flat_flat f g k h [] = refl
flat_flat f g k h (x ∷ xs) = flat_map-append f (g x) (flat_map g xs) ∙ ap (λ ys. ys ++ flat_map f (flat_map g xs)) (h x) ∙ ap (λ ys. k x ++ ys) (flat_flat f g k h xs)

pub flat_mapped : {X Y A : Type 0} (f : Y → List A) (g : X → Y) (k : X → List A) → ((x : X) → f (g x) ≡ k x) → (xs : List X) → flat_map f (map g xs) ≡ flat_map k xs
flat_mapped f g k h [] = refl
flat_mapped f g k h (x ∷ xs) = ap (λ ys. ys ++ flat_map f (map g xs)) (h x) ∙ ap (λ ys. k x ++ ys) (flat_mapped f g k h xs)

-- as many numbers
pub as_many : (a b : ℕ) → a ≡ b → numbers_below a ≡ numbers_below b
as_many a b e = ap numbers_below e

-- numbers after the first ones
numbers_more : (a k : ℕ) → numbers_below (a + k) ≡ numbers_below a ++ map (λ l. a + l) (numbers_below k)
numbers_more a zero = as_many (a + 0) a (omega arith) ∙ sym (append_none (numbers_below a))
numbers_more a (suc k) =
    let next : a + suc k ≡ suc (a + k) = omega arith in
    ap numbers_below next
    ∙ ap (λ xs. xs ++ (a + k) ∷ []) (numbers_more a k)
    ∙ append_assoc (numbers_below a) (map (λ l. a + l) (numbers_below k)) ((a + k) ∷ [])
    ∙ ap (λ xs. numbers_below a ++ xs) (sym (map-append (λ l. a + l) (numbers_below k) (k ∷ [])))

-- the lesser of two numbers
abbrev pub least : ℕ → ℕ → ℕ
least a b = a - (a - b)

-- numbers below a bound, so many at a time
pub numbers_cut : (par n g : ℕ) → numbers_below (least n (g * par)) ≡ flat_map (λ k. map (λ l. k * par + l) (numbers_below (least par (n - k * par)))) (numbers_below g)
numbers_cut par n zero = as_many (least n (0 * par)) 0 (omega arith)
numbers_cut par n (suc g) =
    let here : List ℕ = map (λ l. g * par + l) (numbers_below (least par (n - g * par))) in
    as_many (least n (suc g * par)) (least n (g * par) + least par (n - g * par)) (next (g * par) par n (suc g * par) (omega arith))
    ∙ more (least n (g * par)) (least par (n - g * par)) (g * par) (one (g * par) par n)
    ∙ ap (λ xs. xs ++ here) (numbers_cut par n g)
    ∙ ap (λ xs. flat_map (λ k. map (λ l. k * par + l) (numbers_below (least par (n - k * par)))) (numbers_below g) ++ xs) (sym (append_none here))
    ∙ sym (flat_map-append (λ k. map (λ l. k * par + l) (numbers_below (least par (n - k * par)))) (numbers_below g) (g ∷ []))
  where
    next : (a par n b : ℕ) → b ≡ a + par → least n b ≡ least n a + least par (n - a)
    next a par n b e = omega (arith, e)

    one : (a par n : ℕ) → (least n a ≡ a) ⊎ (least par (n - a) ≡ 0)
    one a par n = elim (cases_lt n a) [
      | inl q ↦ inr (omega (arith, q))
      | inr q ↦ inl (omega (arith, q))
    ]

    more : (a k b : ℕ) → (a ≡ b) ⊎ (k ≡ 0) → numbers_below (a + k) ≡ numbers_below a ++ map (λ l. b + l) (numbers_below k)
    more a k b (inl e) = subst (λ c. numbers_below (a + k) ≡ numbers_below a ++ map (λ l. c + l) (numbers_below k)) e (numbers_more a k)
    more a k b (inr e) = subst (λ j. numbers_below (a + j) ≡ numbers_below a ++ map (λ l. b + l) (numbers_below j)) (sym e) (as_many (a + 0) a (omega arith) ∙ sym (append_none (numbers_below a)))

-- where a test holds of the first numbers and of no others
pub first_kept : (test : ℕ → Bool) (count p : ℕ) → count ≤ p → ((l : ℕ) → l < count → test l ≡ true) → ((l : ℕ) → count ≤ l → l < p → test l ≡ false) → filter test (numbers_below p) ≡ numbers_below count
first_kept test count zero le h k = as_many 0 count (omega (arith, le))
first_kept test count (suc p) le h k = filter-append test (numbers_below p) (p ∷ []) ∙ (elim (cases_lt p count) [
  | inl q ↦
      let all : suc p ≡ count = omega (arith, le, q) in
      ap (λ b. filter test (numbers_below p) ++ cond b (p ∷ []) []) (h p q)
      ∙ ap (λ xs. xs ++ p ∷ []) (first_kept test p p (omega arith) (λ l lt. h l (omega (arith, lt, q))) (λ l ge lt. absurd (omega (arith, ge, lt))))
      ∙ ap numbers_below all
  | inr q ↦
      ap (λ b. filter test (numbers_below p) ++ cond b (p ∷ []) []) (k p q (omega arith))
      ∙ append_none (filter test (numbers_below p))
      ∙ first_kept test count p q h (λ l ge lt. k l ge (omega (arith, lt)))
])
