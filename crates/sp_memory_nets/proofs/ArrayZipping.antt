-- Two lists, element by element.
use Rattle.std.proofs.Common.{◌≡◌, Bool, true, List, [], ◌∷◌, length, map, drop, slice_index_or, All, refl, ap, ◌∙◌, arith}
use Rattle.std.specs.List.{AllZip, filter}
use Rattle.std.proofs.lemmas.List.Elements.{All-nil, All-cons, All-tail, All-filter, filter_passes}

module _ {A B : Type 0} (R : A → B → Type 0) where
  -- elements whose values are equal go together
  pub zip_of : {C : Type 0} (f : A → C) (g : B → C) → ((a : A) (b : B) → g b ≡ f a → R a b) → (xs : List A) (ys : List B) → map g ys ≡ map f xs → AllZip R xs ys
  zip_of f g h [] [] e = tt
  zip_of f g h [] (y ∷ ys) e = (let n = ap length e in absurd (omega (arith, n)))
  zip_of f g h (x ∷ xs) [] e = (let n = ap length e in absurd (omega (arith, n)))
  zip_of f g h (x ∷ xs) (y ∷ ys) e = (h x y (ap (λ l. slice_index_or l 0 (f x)) e), zip_of f g h xs ys (ap (drop 1) e))

  -- what is known of each element of the one list is known of each of the other
  pub zip_all : (P : A → Type 0) (Q : B → Type 0) → ((a : A) (b : B) → R a b → P a → Q b) → (xs : List A) (ys : List B) → AllZip R xs ys → All P xs → All Q ys
  zip_all P Q h [] [] z p = All-nil Q
  zip_all P Q h [] (y ∷ ys) z p = absurd z
  zip_all P Q h (x ∷ xs) [] z p = absurd z
  zip_all P Q h (x ∷ xs) (y ∷ ys) z p = All-cons Q y ys (h x y z.0 (p 0 x (omega arith))) (zip_all P Q h xs ys z.1 (All-tail P x xs p))

  pub zip_same : {C : Type 0} (f : A → C) (g : B → C) → ((a : A) (b : B) → R a b → g b ≡ f a) → (xs : List A) (ys : List B) → AllZip R xs ys → map g ys ≡ map f xs
  zip_same f g h [] [] z = refl
  zip_same f g h [] (y ∷ ys) z = absurd z
  zip_same f g h (x ∷ xs) [] z = absurd z
  zip_same f g h (x ∷ xs) (y ∷ ys) z = ap (λ c. c ∷ map g ys) (h x y z.0) ∙ ap (λ cs. f x ∷ cs) (zip_same f g h xs ys z.1)

-- what is picked passes the test
pub passing : {A : Type 0} (p : A → Bool) (P : A → Type 0) (xs : List A) → All P xs → All (λ x. (p x ≡ true) × P x) (filter p xs)
passing p P xs h = λ k d l. (filter_passes p xs k d l, All-filter p P xs h k d l)
