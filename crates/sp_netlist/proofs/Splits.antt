-- A list split at one of its elements: what is known of the elements before it and of it.
use Rattle.std.proofs.Common.{◌≡◌, ℕ, zero, suc, ◌+◌, ◌<◌, ◌≤◌, List, [], ◌∷◌, ◌++◌, Bool, true, false, cond, ◌||◌, ◌==◌, length, get_or, map, refl, sym, ap, ◌∙◌, append_assoc, Contains, flat_map, count_by, inl, inr, ◌⊎◌, arith, ⊎_elim, subst}
use Rattle.std.specs.List.{list_any}
use Rattle.std.proofs.lemmas.List.Sums.{sum_by-append, sum_by-cons}
use Rattle.std.proofs.lemmas.List.Elements.{Contains-append_left, Contains-append_right, Contains-append_cases}
use Rattle.std.proofs.lemmas.List.Concat.{flat_map-append}
use Rattle.std.proofs.lemmas.Bool.{cases_Bool, or_right, or_cases, eqb-true, false≢true}

-- x stands in the list, between these
pub record Split {X : Type 0} (xs : List X) (x : X) : Type 0 where
  pub before : List X
  pub after : List X
  pub is : xs ≡ before ++ x ∷ after

pub split_cons : {X : Type 0} (y x : X) (xs : List X) → Split xs x → Split (y ∷ xs) x
split_cons y x xs s = record { before = y ∷ s.before; after = s.after; is = ap (λ zs. y ∷ zs) s.is }

pub split_at : {X : Type 0} (x : X) (xs : List X) (k : ℕ) → k < length xs → get_or xs k x ≡ x → Split xs x
split_at x [] k l e = absurd (omega arith)
split_at x (y ∷ ys) zero l e = record { before = []; after = ys; is = ap (λ z. z ∷ ys) e }
split_at x (y ∷ ys) (suc k) l e = split_cons y x ys (split_at x ys k (omega arith) e)

pub split_of : {X : Type 0} (xs : List X) (x : X) → Contains xs x → Split xs x
split_of xs x h = split_at x xs h.0 h.1 h.2

pub contains_head : {X : Type 0} (x : X) (xs : List X) → Contains (x ∷ xs) x
contains_head x xs = (0, omega arith, refl)

pub contains_tail : {X : Type 0} (y x : X) (xs : List X) → Contains xs x → Contains (y ∷ xs) x
contains_tail y x xs h = (suc h.0, omega (arith, h.1), h.2)

pub contains_split : {X : Type 0} (xs before : List X) (x : X) (after : List X) → xs ≡ before ++ x ∷ after → Contains xs x
contains_split xs before x after e = subst (λ zs. Contains zs x) (sym e) (Contains-append_right before (x ∷ after) x (contains_head x after))

-- a split of the front is a split of the whole
pub longer : {X : Type 0} (xs before : List X) (x : X) (after : List X) (b : List X) (y : X) (a : List X) → xs ≡ before ++ x ∷ after → before ≡ b ++ y ∷ a → xs ≡ b ++ y ∷ (a ++ x ∷ after)
longer xs before x after b y a e f = e ∙ ap (λ zs. zs ++ x ∷ after) f ∙ append_assoc b (y ∷ a) (x ∷ after)

-- counts
pub count-cons : {X : Type 0} (p : X → Bool) (x : X) (xs : List X) → count_by p (x ∷ xs) ≡ cond (p x) 1 0 + count_by p xs
count-cons p x xs = sum_by-cons (λ y. cond (p y) 1 0) x xs

pub count-append : {X : Type 0} (p : X → Bool) (xs ys : List X) → count_by p (xs ++ ys) ≡ count_by p xs + count_by p ys
count-append p xs ys = sum_by-append (λ y. cond (p y) 1 0) xs ys

pub count-cons_yes : {X : Type 0} (p : X → Bool) (x : X) (xs : List X) → p x ≡ true → count_by p (x ∷ xs) ≡ 1 + count_by p xs
count-cons_yes p x xs e = count-cons p x xs ∙ ap (λ (b : Bool). cond b 1 0 + count_by p xs) e

pub count-cons_no : {X : Type 0} (p : X → Bool) (x : X) (xs : List X) → p x ≡ false → count_by p (x ∷ xs) ≡ count_by p xs
count-cons_no p x xs e = let h = count-cons p x xs ∙ ap (λ (b : Bool). cond b 1 0 + count_by p xs) e in omega (arith, h)

pub count-split : {X : Type 0} (p : X → Bool) (xs before : List X) (x : X) (after : List X) → xs ≡ before ++ x ∷ after → p x ≡ true → count_by p xs ≡ count_by p before + (1 + count_by p after)
count-split p xs before x after e pass = ap (count_by p) e ∙ count-append p before (x ∷ after) ∙ ap (λ n. count_by p before + n) (count-cons_yes p x after pass)

-- where no element before passes, none of their fronts does
pub none_first : {X : Type 0} (p : X → Bool) (x : X) (xs : List X) → count_by p (x ∷ xs) ≡ 0 → p x ≡ false
none_first p x xs e = ⊎_elim (λ pass. absurd (omega (arith, count-cons_yes p x xs pass))) (λ fails. fails) (cases_Bool (p x))

pub none_rest : {X : Type 0} (p : X → Bool) (x : X) (xs : List X) → count_by p (x ∷ xs) ≡ 0 → count_by p xs ≡ 0
none_rest p x xs e = omega (arith, count-cons p x xs)

pub any_of_count : {X : Type 0} (p : X → Bool) (xs : List X) → cond (list_any p xs) 1 0 ≤ count_by p xs
any_of_count p [] = omega arith
any_of_count p (x ∷ xs) = go (any_of_count p xs) (p x) refl
  where
    go : cond (list_any p xs) 1 0 ≤ count_by p xs → (b : Bool) → p x ≡ b → cond (b || list_any p xs) 1 0 ≤ count_by p (x ∷ xs)
    go h true e = omega (arith, count-cons_yes p x xs e)
    go h false e = omega (arith, count-cons_no p x xs e, h)

pub any_count : {X Y : Type 0} (p : Y → Bool) (f : X → List Y) (xs : List X) → count_by (λ x. list_any p (f x)) xs ≤ count_by p (flat_map f xs)
any_count p f [] = omega arith
any_count p f (x ∷ xs) = omega (arith, count-cons (λ y. list_any p (f y)) x xs, count-append p (f x) (flat_map f xs), any_of_count p (f x), any_count p f xs)

-- an element that passes is found
pub any_contains : {X : Type 0} (p : X → Bool) (xs : List X) (k : ℕ) (x : X) → k < length xs → get_or xs k x ≡ x → p x ≡ true → list_any p xs ≡ true
any_contains p [] k x l e pass = absurd (omega arith)
any_contains p (y ∷ ys) zero x l e pass = rw (ap p e ∙ pass)
any_contains p (y ∷ ys) (suc k) x l e pass = or_right (p y) (list_any p ys) (any_contains p ys k x (omega arith) e pass)

-- the n-th element that passes
pub record Nth {X : Type 0} (p : X → Bool) (xs : List X) (n : ℕ) : Type 0 where
  pub before : List X
  pub item : X
  pub after : List X
  pub is : xs ≡ before ++ item ∷ after
  pub passes : p item ≡ true
  pub place : count_by p before ≡ n

pub nth : {X : Type 0} (p : X → Bool) (xs : List X) (n : ℕ) → n < count_by p xs → Nth p xs n
nth p [] n l = absurd (omega arith)
nth p (x ∷ xs) n l = go (nth p xs) (p x) refl n l
  where
    later : (m k : ℕ) → k ≡ cond (p x) 1 0 + m → Nth p xs m → Nth p (x ∷ xs) k
    later m k e h = record { before = x ∷ h.before; item = h.item; after = h.after; is = ap (λ zs. x ∷ zs) h.is; passes = h.passes; place = count-cons p x h.before ∙ ap (λ j. cond (p x) 1 0 + j) h.place ∙ sym e }

    go : ((k : ℕ) → k < count_by p xs → Nth p xs k) → (b : Bool) → p x ≡ b → (k : ℕ) → k < count_by p (x ∷ xs) → Nth p (x ∷ xs) k
    go rest true e zero lt = record { before = []; item = x; after = xs; is = refl; passes = e; place = refl }
    go rest true e (suc k) lt = later k (suc k) (rw e (omega arith)) (rest k (omega (arith, count-cons_yes p x xs e)))
    go rest false e k lt = later k k (rw e (omega arith)) (rest k (omega (arith, count-cons_no p x xs e)))

-- elements of a flat_map
pub contains_flat : {X Y : Type 0} (f : X → List Y) (xs : List X) (x : X) (y : Y) → Split xs x → Contains (f x) y → Contains (flat_map f xs) y
contains_flat f xs x y s h = subst (λ zs. Contains (flat_map f zs) y) (sym s.is)
    (subst (λ ws. Contains ws y) (sym (flat_map-append f s.before (x ∷ s.after)))
    (Contains-append_right (flat_map f s.before) (flat_map f (x ∷ s.after)) y (Contains-append_left (f x) (flat_map f s.after) y h)))

pub record Piece {X Y : Type 0} (f : X → List Y) (xs : List X) (y : Y) : Type 0 where
  pub item : X
  pub split : Split xs item
  pub holds : Contains (f item) y

pub piece : {X Y : Type 0} (f : X → List Y) (xs : List X) (y : Y) → Contains (flat_map f xs) y → Piece f xs y
piece f [] y h = absurd (omega (arith, h.1))
piece f (x ∷ xs) y h = ⊎_elim here (λ k. later (piece f xs y k)) (Contains-append_cases (f x) (flat_map f xs) y h)
  where
    here : Contains (f x) y → Piece f (x ∷ xs) y
    here k = record { item = x; split = record { before = []; after = xs; is = refl }; holds = k }

    later : Piece f xs y → Piece f (x ∷ xs) y
    later p = record { item = p.item; split = split_cons x p.item xs p.split; holds = p.holds }

-- two tests that agree on a list's elements count alike
pub same_count : {X : Type 0} (p q : X → Bool) (xs : List X) → ((x : X) → Contains xs x → p x ≡ q x) → count_by p xs ≡ count_by q xs
same_count p q [] h = refl
same_count p q (x ∷ xs) h =
    count-cons p x xs ∙ ap (λ (b : Bool). cond b 1 0 + count_by p xs) (h x (contains_head x xs))
    ∙ ap (λ n. cond (q x) 1 0 + n) (same_count p q xs (λ y k. h y (contains_tail x y xs k))) ∙ sym (count-cons q x xs)

-- a list where what passes the first test is of a kind, and has the number n of its kind: one element at most passes
abbrev pub Placed : {X : Type 0} (p kind : X → Bool) (n k : ℕ) (xs : List X) → Type 0
Placed {X} p kind n k xs = (b : List X) (x : X) (a : List X) → xs ≡ b ++ x ∷ a → p x ≡ true → (kind x ≡ true) × (n ≡ k + count_by kind b)

placed_rest : {X : Type 0} (p kind : X → Bool) (n k : ℕ) (y : X) (ys : List X) → Placed p kind n k (y ∷ ys) → Placed p kind n (k + cond (kind y) 1 0) ys
placed_rest p kind n k y ys h b x a e pass =
    let r = h (y ∷ b) x a (ap (λ zs. y ∷ zs) e) pass in
    (r.0, omega (arith, r.1, count-cons kind y b))

none_placed : {X : Type 0} (p kind : X → Bool) (n k : ℕ) (xs : List X) → n < k → Placed p kind n k xs → count_by p xs ≡ 0
none_placed p kind n k [] l h = refl
none_placed p kind n k (x ∷ xs) l h = go (none_placed p kind n (k + cond (kind x) 1 0) xs (omega arith) (placed_rest p kind n k x xs h)) (cases_Bool (p x))
  where
    go : count_by p xs ≡ 0 → (p x ≡ true) ⊎ (p x ≡ false) → count_by p (x ∷ xs) ≡ 0
    go r (inl pass) = absurd (omega (arith, (h [] x xs refl pass).1))
    go r (inr fails) = count-cons_no p x xs fails ∙ r

pub one_placed : {X : Type 0} (p kind : X → Bool) (n k : ℕ) (xs : List X) → Placed p kind n k xs → count_by p xs ≤ 1
one_placed p kind n k [] h = omega arith
one_placed p kind n k (x ∷ xs) h = go (one_placed p kind n (k + cond (kind x) 1 0) xs (placed_rest p kind n k x xs h)) (cases_Bool (p x))
  where
    go : count_by p xs ≤ 1 → (p x ≡ true) ⊎ (p x ≡ false) → count_by p (x ∷ xs) ≤ 1
    go r (inr fails) = omega (arith, count-cons_no p x xs fails)
    go r (inl pass) =
        let at = h [] x xs refl pass in
        let e : cond {A = ℕ} (kind x) 1 0 ≡ 1 = ap {B = ℕ} (λ (b : Bool). cond b 1 0) at.0 in
        let none = none_placed p kind n (k + cond (kind x) 1 0) xs (omega (arith, at.1, e)) (placed_rest p kind n k x xs h) in
        omega (arith, count-cons_yes p x xs pass, none)

-- a pair whose first is the number stands in the list, so the number is among the firsts
pub any_first : (net : ℕ) (xs : List (ℕ × ℕ)) → list_any (λ p. p.0 == net) xs ≡ true → Contains (map (λ p. p.0) xs) net
any_first net [] e = absurd (false≢true e)
any_first net (x ∷ xs) e = go (λ k. contains_tail x.0 net (map (λ (p : ℕ × ℕ). p.0) xs) (any_first net xs k)) (or_cases (x.0 == net) (list_any (λ (p : ℕ × ℕ). p.0 == net) xs) e)
  where
    go : (list_any (λ (p : ℕ × ℕ). p.0 == net) xs ≡ true → Contains (map (λ p. p.0) (x ∷ xs)) net) → ((x.0 == net) ≡ true) ⊎ (list_any (λ (p : ℕ × ℕ). p.0 == net) xs ≡ true) → Contains (map (λ p. p.0) (x ∷ xs)) net
    go later (inl k) = (0, omega arith, eqb-true x.0 net k)
    go later (inr k) = later k

-- what stands behind an element of a map
pub record Source {X Y : Type 0} (f : X → Y) (xs : List X) (y : Y) : Type 0 where
  pub item : X
  pub stands : Contains xs item
  pub gives : f item ≡ y

pub source : {X Y : Type 0} (f : X → Y) (xs : List X) (y : Y) (k : ℕ) → k < length (map f xs) → get_or (map f xs) k y ≡ y → Source f xs y
source f [] y k l e = absurd (omega arith)
source f (x ∷ xs) y zero l e = record { item = x; stands = contains_head x xs; gives = e }
source f (x ∷ xs) y (suc k) l e = go (source f xs y k (omega arith) e)
  where
    go : Source f xs y → Source f (x ∷ xs) y
    go s = record { item = s.item; stands = contains_tail x s.item xs s.stands; gives = s.gives }

-- what passes in one piece of a flat_map is among what passes in the whole
pub piece_count : {X Y : Type 0} (p : Y → Bool) (f : X → List Y) (xs before : List X) (x : X) (after : List X) → xs ≡ before ++ x ∷ after → count_by p (f x) ≤ count_by p (flat_map f xs)
piece_count p f xs before x after e =
    let whole = ap (λ zs. count_by p (flat_map f zs)) e ∙ ap (count_by p) (flat_map-append f before (x ∷ after)) ∙ count-append p (flat_map f before) (f x ++ flat_map f after) in
    omega (arith, whole, count-append p (f x) (flat_map f after))
