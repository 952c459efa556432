-- The cycles in which the words of a transfer move; and lists that contain something.
use Rattle.std.proofs.Common.{◌≡◌, ℕ, zero, suc, ◌+◌, ◌/◌, ◌<◌, ◌≤◌, ◌⊎◌, ◌-◌, inl, inr, ⊎_elim, List, [], ◌∷◌, ◌++◌, map, flat_map, refl, sym, ap, subst, ◌∙◌, arith}
use Rattle.std.specs.List.{Contains}
use Rattle.sp_core.specs.Cost.{waits}
use Rattle.sp_time.specs.Lists.{total}
use Rattle.sp_machine.specs.Transfers.{word_cycle, transfer_took}
use Rattle.sp_transfer_runs.proofs.Numbers.{mapped, nth_map}

module _ (delay : ℕ → ℕ) where
  more_total : (a b : ℕ) → total delay a ≤ total delay (a + b)
  more_total a zero = let e : a + 0 ≡ a = omega arith in subst (λ n. total delay a ≤ total delay n) (sym e) (omega arith)
  more_total a (suc b) =
      let e : a + suc b ≡ suc (a + b) = omega arith in
      let h = more_total a b in
      subst (λ n. total delay a ≤ total delay n) (sym e) (omega (arith, h))

  total_grows : (a b : ℕ) → a ≤ b → total delay a ≤ total delay b
  total_grows a b l = let h = more_total a (b - a) in let e : a + (b - a) ≡ b = omega (arith, l) in subst (λ n. total delay a ≤ total delay n) e h

  -- each word moves in a later cycle than the one before it
  pub words_rise : (j k : ℕ) → j < k → word_cycle delay j < word_cycle delay k
  words_rise j k l = let a : total delay (j / 16 + 1) ≤ total delay (k / 16 + 1) = total_grows (j / 16 + 1) (k / 16 + 1) (omega (arith, l)) in omega (arith, a, l)

  pub two_on : (j : ℕ) → 2 ≤ word_cycle delay j
  two_on j = omega arith

  -- a transfer is over two cycles after its last word
  pub took_is : (w : ℕ) → transfer_took delay (suc w) ≡ word_cycle delay w + 2
  took_is w = let e : waits (suc w) ≡ w / 16 + 1 = omega arith in let f : total delay (waits (suc w)) ≡ total delay (w / 16 + 1) = ap (total delay) e in omega (arith, f)

  pub word_within : (j w : ℕ) → j < w → word_cycle delay j + 2 ≤ transfer_took delay w
  word_within j zero l = absurd (omega (arith, l))
  word_within j (suc w) l = by (k_of w l)
    where
      by : (j ≡ w) ⊎ (j < w) → word_cycle delay j + 2 ≤ transfer_took delay (suc w)
      by (inl e) = let f = took_is w in let g : word_cycle delay j ≡ word_cycle delay w = ap (word_cycle delay) e in omega (arith, f, g)
      by (inr m) = let f = took_is w in let g = words_rise j w m in omega (arith, f, g)

      k_of : (w : ℕ) → j < suc w → (j ≡ w) ⊎ (j < w)
      k_of w l = grind (arith)

-- what a list contains
pub in_split : {A : Type 0} (x : A) (xs : List A) (y : A) → Contains (x ∷ xs) y → (x ≡ y) ⊎ Contains xs y
in_split x xs y (zero, l, e) = inl e
in_split x xs y (suc k, l, e) = inr (k, omega (arith, l), e)

pub in_head : {A : Type 0} (x : A) (xs : List A) → Contains (x ∷ xs) x
in_head x xs = (0, omega arith, refl)

pub in_tail : {A : Type 0} (x : A) (xs : List A) (y : A) → Contains xs y → Contains (x ∷ xs) y
in_tail x xs y (k, l, e) = (suc k, omega (arith, l), e)

pub in_none : {A : Type 0} (y : A) → Contains [] y → ⊥
in_none y (k, l, e) = absurd (omega (arith, l))

pub to_map : {A B : Type 0} (f : A → B) (xs : List A) (x : A) → Contains xs x → Contains (map f xs) (f x)
to_map f xs x (k, l, e) = (k, subst (λ n. k < n) (sym (mapped f xs)) l, nth_map f xs k x (f x) l ∙ ap f e)

pub from_map : {A B : Type 0} (f : A → B) (xs : List A) (y : B) → Contains (map f xs) y → (x : A) × Contains xs x × (f x ≡ y)
from_map f [] y c = absurd (in_none y c)
from_map f (x ∷ xs) y c = by (in_split (f x) (map f xs) y c) (from_map f xs y)
  where
    by : (f x ≡ y) ⊎ Contains (map f xs) y → (Contains (map f xs) y → (z : _) × Contains xs z × (f z ≡ y)) → (z : _) × Contains (x ∷ xs) z × (f z ≡ y)
    by (inl e) rest = (x, in_head x xs, e)
    by (inr d) rest = let (z, there, is) = rest d in (z, in_tail x xs z there, is)

pub in_left : {A : Type 0} (xs ys : List A) (y : A) → Contains xs y → Contains (xs ++ ys) y
in_left [] ys y c = absurd (in_none y c)
in_left (x ∷ xs) ys y c = by (in_split x xs y c) (in_left xs ys y)
  where
    by : (x ≡ y) ⊎ Contains xs y → (Contains xs y → Contains (xs ++ ys) y) → Contains (x ∷ (xs ++ ys)) y
    by (inl e) rest = subst (Contains (x ∷ (xs ++ ys))) e (in_head x (xs ++ ys))
    by (inr d) rest = in_tail x (xs ++ ys) y (rest d)

pub in_right : {A : Type 0} (xs ys : List A) (y : A) → Contains ys y → Contains (xs ++ ys) y
in_right [] ys y c = c
in_right (x ∷ xs) ys y c = in_tail x (xs ++ ys) y (in_right xs ys y c)

pub in_either : {A : Type 0} (xs ys : List A) (y : A) → Contains (xs ++ ys) y → Contains xs y ⊎ Contains ys y
in_either [] ys y c = inr c
in_either (x ∷ xs) ys y c = by (in_split x (xs ++ ys) y c) (in_either xs ys y)
  where
    by : (x ≡ y) ⊎ Contains (xs ++ ys) y → (Contains (xs ++ ys) y → Contains xs y ⊎ Contains ys y) → Contains (x ∷ xs) y ⊎ Contains ys y
    by (inl e) rest = inl (subst (Contains (x ∷ xs)) e (in_head x xs))
    by (inr d) rest = ⊎_elim (λ a. inl (in_tail x xs y a)) (λ b. inr b) (rest d)

pub to_flat : {A B : Type 0} (f : A → List B) (xs : List A) (x : A) (y : B) → Contains xs x → Contains (f x) y → Contains (flat_map f xs) y
to_flat f [] x y c d = absurd (in_none x c)
to_flat f (z ∷ xs) x y c d = by (in_split z xs x c) (to_flat f xs x y)
  where
    by : (z ≡ x) ⊎ Contains xs x → (Contains xs x → Contains (f x) y → Contains (flat_map f xs) y) → Contains (f z ++ flat_map f xs) y
    by (inl e) rest = in_left (f z) (flat_map f xs) y (subst (λ w. Contains (f w) y) (sym e) d)
    by (inr g) rest = in_right (f z) (flat_map f xs) y (rest g d)

pub from_flat : {A B : Type 0} (f : A → List B) (xs : List A) (y : B) → Contains (flat_map f xs) y → (x : A) × Contains xs x × Contains (f x) y
from_flat f [] y c = absurd (in_none y c)
from_flat f (x ∷ xs) y c = by (in_either (f x) (flat_map f xs) y c) (from_flat f xs y)
  where
    by : Contains (f x) y ⊎ Contains (flat_map f xs) y → (Contains (flat_map f xs) y → (z : _) × Contains xs z × Contains (f z) y) → (z : _) × Contains (x ∷ xs) z × Contains (f z) y
    by (inl d) rest = (x, in_head x xs, d)
    by (inr d) rest = let (z, there, is) = rest d in (z, in_tail x xs z there, is)
