-- Tests of lists of orders as they grow.
use Rattle.std.proofs.Common.{◌≡◌, ℕ, suc, ◌+◌, ◌&&◌, Bool, true, false, List, [], ◌∷◌, ◌++◌, refl, ap, sym, ◌∙◌, append_assoc, add-one}
use Rattle.std.specs.List.{flat_map, list_all}
use Rattle.std.proofs.lemmas.List.Folds.{list_all-append}
use Rattle.sp_core.specs.Elements.{numbers_below}

flat_map-append : {X Y : Type 0} (f : X → List Y) (xs ys : List X) → flat_map f (xs ++ ys) ≡ flat_map f xs ++ flat_map f ys
flat_map-append f [] ys = refl
flat_map-append f (x ∷ xs) ys = ap (λ r. f x ++ r) (flat_map-append f xs ys) ∙ sym (append_assoc (f x) (flat_map f xs) (flat_map f ys))

append-nil : {X : Type 0} (xs : List X) → xs ++ [] ≡ xs
append-nil [] = refl
append-nil (x ∷ xs) = ap (λ r. x ∷ r) (append-nil xs)

flat_map-suc : {Y : Type 0} (f : ℕ → List Y) (n : ℕ) → flat_map f (numbers_below (suc n)) ≡ flat_map f (numbers_below n) ++ f n
flat_map-suc f n = flat_map-append f (numbers_below n) (n ∷ []) ∙ ap (λ r. flat_map f (numbers_below n) ++ r) (append-nil (f n))

-- what is tested up to the next number
pub all-more : {Y : Type 0} (p : Y → Bool) (f : ℕ → List Y) (n : ℕ) → list_all p (flat_map f (numbers_below (n + 1))) ≡ (list_all p (flat_map f (numbers_below n)) && list_all p (f n))
all-more p f n = ap (λ k. list_all p (flat_map f (numbers_below k))) (add-one n) ∙ ap (list_all p) (flat_map-suc f n) ∙ list_all-append p (flat_map f (numbers_below n)) (f n)

pub three : {Y : Type 0} (p : Y → Bool) (a b c : List Y) → list_all p (a ++ (b ++ c)) ≡ (list_all p a && (list_all p b && list_all p c))
three p a b c = list_all-append p a (b ++ c) ∙ ap (λ r. list_all p a && r) (list_all-append p b c)

module _ {Y : Type 0} (p : Y → Bool) (f : ℕ → List Y) (n : ℕ) (kept new : Bool) where
  pub then_more : kept ≡ list_all p (flat_map f (numbers_below n)) → kept ≡ true → new ≡ list_all p (f n) → new ≡ list_all p (flat_map f (numbers_below (n + 1)))
  then_more e h g = g ∙ ap (λ b. b && list_all p (f n)) (sym h ∙ e) ∙ sym (all-more p f n)

  pub else_more : kept ≡ list_all p (flat_map f (numbers_below n)) → kept ≡ false → new ≡ false → new ≡ list_all p (flat_map f (numbers_below (n + 1)))
  else_more e h g = g ∙ ap (λ b. b && list_all p (f n)) (sym h ∙ e) ∙ sym (all-more p f n)
