-- What is said of the elements that pass a test, each taken for something.
use Rattle.std.proofs.Common.{◌≡◌, zero, suc, ◌⊎◌, inl, inr, Bool, true, false, cond, List, [], ◌∷◌, map, All, Contains, refl, sym, ap, subst, ◌∙◌, arith}
use Rattle.std.specs.List.{filter}
use Rattle.std.proofs.lemmas.Bool.{true≢false}
use Rattle.std.proofs.lemmas.List.{length-map, get_or-map}
use Rattle.std.proofs.lemmas.List.Elements.{All-map, All-filter, All-contains, All-contains_itself, filter_passes}

module _ {A B : Type 0} (f : A → B) where
  pub each_of : (P : B → Type 0) (p : A → Bool) (Q : A → Type 0) (xs : List A) → All Q xs → ((x : A) → p x ≡ true → Q x → P (f x)) → All P (map f (filter p xs))
  each_of P p Q xs q h = All-map P f (filter p xs) (λ k d l. h _ (filter_passes p xs k d l) (All-filter p Q xs q k d l))

  -- it comes from an element that passes
  pub from_picked : (p : A → Bool) (xs : List A) (y : B) → Contains (map f (filter p xs)) y → (x : A) × Contains xs x × (p x ≡ true) × (f x ≡ y)
  from_picked p xs y = All-contains From (map f (filter p xs)) y (each_of From p (Contains xs) xs (All-contains_itself xs) (λ x t c. (x, c, t, refl)))
    where
      From : B → Type 0
      From z = (x : A) × Contains xs x × (p x ≡ true) × (f x ≡ z)

  -- what holds after each is taken for something
  pub unmapped : (P : B → Type 0) (xs : List A) → All P (map f xs) → All (λ x. P (f x)) xs
  unmapped P xs h = λ k d l. subst P (get_or-map f xs k d (f d) l) (h k (f d) (let e = length-map xs f in omega (arith, e, l)))

pub none_there : {A : Type 0} (x : A) → Contains [] x → ⊥
none_there x c = let l = c.1 in omega (arith, l)

pub here : {A : Type 0} (x y : A) (xs : List A) → x ≡ y → Contains (x ∷ xs) y
here x y xs e = (0, omega arith, e)

pub there : {A : Type 0} (x y : A) (xs : List A) → Contains xs y → Contains (x ∷ xs) y
there x y xs (k, l, e) = (suc k, omega (arith, l), e)

pub first_or_later : {A : Type 0} (x y : A) (xs : List A) → Contains (x ∷ xs) y → (x ≡ y) ⊎ Contains xs y
first_or_later x y xs (zero, l, e) = inl e
first_or_later x y xs (suc k, l, e) = inr (k, omega (arith, l), e)

pub picked : {A B : Type 0} (f : A → B) (p : A → Bool) (xs : List A) (x : A) → Contains xs x → p x ≡ true → Contains (map f (filter p xs)) (f x)
picked f p [] x c t = absurd (none_there x c)
picked {A = A} {B = B} f p (y ∷ ys) x c t = elim (first_or_later y x ys c) [
  | inl e ↦ first (p y) (ap p e ∙ t) e
  | inr later ↦ more (p y) (picked f p ys x later t)
]
  where
    first : (b : Bool) → b ≡ true → y ≡ x → Contains (map f (cond b (y ∷ filter p ys) (filter p ys))) (f x)
    first true h e = here (f y) (f x) _ (ap f e)
    first false h e = absurd (true≢false (sym h))

    more : (b : Bool) → Contains (map f (filter p ys)) (f x) → Contains (map f (cond b (y ∷ filter p ys) (filter p ys))) (f x)
    more true h = there (f y) (f x) _ h
    more false h = h

pub mapped : {A B : Type 0} (f : A → B) (xs : List A) (x : A) → Contains xs x → Contains (map f xs) (f x)
mapped f [] x c = absurd (none_there x c)
mapped f (y ∷ ys) x c = elim (first_or_later y x ys c) [ inl e ↦ here (f y) (f x) (map f ys) (ap f e) | inr later ↦ there (f y) (f x) (map f ys) (mapped f ys x later) ]
