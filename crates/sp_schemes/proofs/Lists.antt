-- What holds of each of a list, and of each two of it in their order.
use Rattle.std.proofs.Common.{◌≡◌, ℕ, zero, suc, ◌<◌, Bool, true, false, cond, List, [], ◌∷◌, ◌++◌, length, map, filter, get_or, arith, refl, sym, subst}
use Rattle.std.proofs.lemmas.Bool.{and_parts}
use Rattle.std.specs.List.{list_all}
use Rattle.std.specs.Prelude.{◌&&◌}

abbrev pub Each : {X : Type 0} → (X → Type 0) → List X → Type 0
Each P [] = Unit {0}
Each P (x ∷ xs) = P x × Each P xs

abbrev pub Pairs : {X : Type 0} → (X → X → Type 0) → List X → Type 0
Pairs S [] = Unit {0}
Pairs S (x ∷ xs) = Each (S x) xs × Pairs S xs

module _ {X : Type 0} (P : X → Type 0) where
  pub each_at : (xs : List X) → Each P xs → (i : ℕ) (d : X) → i < length xs → P (get_or xs i d)
  each_at [] h i d l = absurd (omega (arith, l))
  each_at (x ∷ xs) h zero d l = h.0
  each_at (x ∷ xs) h (suc i) d l = each_at xs h.1 i d (omega arith)

  pub each_of : (xs : List X) (d : X) → ((i : ℕ) → i < length xs → P (get_or xs i d)) → Each P xs
  each_of [] d h = tt
  each_of (x ∷ xs) d h = (h 0 (omega arith), each_of xs d (λ i l. h (suc i) (omega arith)))

  pub each_append : (xs ys : List X) → Each P xs → Each P ys → Each P (xs ++ ys)
  each_append [] ys h k = k
  each_append (x ∷ xs) ys h k = (h.0, each_append xs ys h.1 k)

  pub each_left : (xs ys : List X) → Each P (xs ++ ys) → Each P xs
  each_left [] ys h = tt
  each_left (x ∷ xs) ys h = (h.0, each_left xs ys h.1)

  pub each_right : (xs ys : List X) → Each P (xs ++ ys) → Each P ys
  each_right [] ys h = h
  each_right (x ∷ xs) ys h = each_right xs ys h.1

pub each_both : {X : Type 0} (P Q : X → Type 0) (xs : List X) → Each P xs → Each Q xs → Each (λ x. P x × Q x) xs
each_both P Q [] h k = tt
each_both P Q (x ∷ xs) h k = ((h.0, k.0), each_both P Q xs h.1 k.1)

module _ {X : Type 0} (P Q : X → Type 0) where
  pub each_more : ((x : X) → P x → Q x) → (xs : List X) → Each P xs → Each Q xs
  each_more f [] h = tt
  each_more f (x ∷ xs) h = (f x h.0, each_more f xs h.1)

  -- where those of a list that pass a test have one fact and another one gives a third
  pub each_kept : (p : X → Bool) → ((x : X) → p x ≡ true → P x → Q x) → (xs : List X) → Each P xs → Each Q (filter p xs)
  each_kept p f [] h = tt
  each_kept p f (x ∷ xs) h = go (p x) refl (each_kept p f xs h.1)
    where
      go : (b : Bool) → p x ≡ b → Each Q (filter p xs) → Each Q (cond b (x ∷ filter p xs) (filter p xs))
      go true e r = (f x e h.0, r)
      go false e r = r

  pub kept_each : (p : X → Bool) → ((x : X) → p x ≡ true → Q x → P x) → ((x : X) → p x ≡ false → P x) → (xs : List X) → Each Q (filter p xs) → Each P xs
  kept_each p f g [] h = tt
  kept_each p f g (x ∷ xs) h = go (p x) refl h (λ k. kept_each p f g xs k)
    where
      go : (b : Bool) → p x ≡ b → Each Q (cond b (x ∷ filter p xs) (filter p xs)) → (Each Q (filter p xs) → Each P xs) → P x × Each P xs
      go true e h r = (f x e h.0, r h.1)
      go false e h r = (g x e, r h)

module _ {X Y : Type 0} (f : X → Y) (P : Y → Type 0) where
  pub each_mapped : (xs : List X) → Each (λ x. P (f x)) xs → Each P (map f xs)
  each_mapped [] h = tt
  each_mapped (x ∷ xs) h = (h.0, each_mapped xs h.1)

  pub mapped_each : (xs : List X) → Each P (map f xs) → Each (λ x. P (f x)) xs
  mapped_each [] h = tt
  mapped_each (x ∷ xs) h = (h.0, mapped_each xs h.1)

module _ {X : Type 0} (S : X → X → Type 0) where
  pub pairs_at : ((x : X) → S x x) → ((x y : X) → S x y → S y x) → (xs : List X) → Pairs S xs → (i j : ℕ) (d : X) → i < length xs → j < length xs → S (get_or xs i d) (get_or xs j d)
  pairs_at same turned [] h i j d l k = absurd (omega (arith, l))
  pairs_at same turned (x ∷ xs) h zero zero d l k = same x
  pairs_at same turned (x ∷ xs) h zero (suc j) d l k = each_at (S x) xs h.0 j d (omega arith)
  pairs_at same turned (x ∷ xs) h (suc i) zero d l k = turned x (get_or xs i d) (each_at (S x) xs h.0 i d (omega arith))
  pairs_at same turned (x ∷ xs) h (suc i) (suc j) d l k = pairs_at same turned xs h.1 i j d (omega arith) (omega arith)

  pub pairs_of : (xs : List X) (d : X) → ((i j : ℕ) → i < length xs → j < length xs → S (get_or xs i d) (get_or xs j d)) → Pairs S xs
  pairs_of [] d h = tt
  pairs_of (x ∷ xs) d h = (each_of (S x) xs d (λ j l. h 0 (suc j) (omega arith) (omega arith)), pairs_of xs d (λ i j l k. h (suc i) (suc j) (omega arith) (omega arith)))

-- a test that holds of each
pub each_true : {X : Type 0} (p : X → Bool) (xs : List X) → list_all p xs ≡ true → Each (λ x. p x ≡ true) xs
each_true p [] h = tt
each_true p (x ∷ xs) h =
    let parts = and_parts (p x) (list_all p xs) h in
    (parts.0, each_true p xs parts.1)

module _ {X : Type 0} (E : X → Type 0) (S T : X → X → Type 0) where
  pub pairs_with : ((x y : X) → E x → S x y → T x y) → (xs : List X) → Each E xs → Pairs S xs → Pairs T xs
  pairs_with f [] e h = tt
  pairs_with f (x ∷ xs) e h = (each_more (S x) (T x) (λ y. f x y e.0) xs h.0, pairs_with f xs e.1 h.1)

pub pairs_both : {X : Type 0} (S T : X → X → Type 0) (xs : List X) → Pairs S xs → Pairs T xs → Pairs (λ x y. S x y × T x y) xs
pairs_both S T [] h k = tt
pairs_both S T (x ∷ xs) h k = (each_both (S x) (T x) xs h.0 k.0, pairs_both S T xs h.1 k.1)
