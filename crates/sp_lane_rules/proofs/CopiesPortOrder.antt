-- Arguments and outputs keep their order among the memories of lanes.
use Rattle.std.proofs.Common.{◌≡◌, ℕ, zero, suc, ◌+◌, ◌<◌, ◌≤◌, Bool, true, false, cond, List, [], ◌∷◌, ◌++◌, length, map, take, refl, sym, ◌∙◌, ap, subst, arith, ◌⊎◌, inl, inr, ◌==◌}
use Rattle.std.proofs.lemmas.Bool.{true≢false, lt-ltb, ltb-true, eq-eqb}
use Rattle.std.proofs.lemmas.List.{take_more, take_all}
use Rattle.std.specs.Prelude.{filter, slice_index_or}
use Rattle.sp_core.specs.Elements.{numbers_below}
use Rattle.sp_lanes.specs.Order.{is_before, placed, in_turn, with_owned}
use Rattle.sp_lane_rules.specs.Copies.{one_if, occurrences}

pub filter_append : (p : ℕ → Bool) (xs ys : List ℕ) → filter p (xs ++ ys) ≡ filter p xs ++ filter p ys
filter_append p [] ys = refl
filter_append p (x ∷ xs) ys = by (p x) (filter_append p xs ys)
  where
    by : (b : Bool) → filter p (xs ++ ys) ≡ filter p xs ++ filter p ys → cond b (x ∷ filter p (xs ++ ys)) (filter p (xs ++ ys)) ≡ cond b (x ∷ filter p xs) (filter p xs) ++ filter p ys
    by true e = ap (λ l. x ∷ l) e
    by false e = e

pub filter_map : {A : Type 0} (q : A → Bool) (f : ℕ → A) (xs : List ℕ) → filter q (map f xs) ≡ map f (filter (λ x. q (f x)) xs)
filter_map q f [] = refl
filter_map q f (x ∷ xs) = by (q (f x)) (filter_map q f xs)
  where
    by : (b : Bool) → filter q (map f xs) ≡ map f (filter (λ x. q (f x)) xs) → cond b (f x ∷ filter q (map f xs)) (filter q (map f xs)) ≡ map f (cond b (x ∷ filter (λ x. q (f x)) xs) (filter (λ x. q (f x)) xs))
    by true e = ap (λ l. f x ∷ l) e
    by false e = e

pub filter_none : (p : ℕ → Bool) (xs : List ℕ) → ((m : ℕ) → 1 ≤ occurrences m xs → p m ≡ false) → filter p xs ≡ []
filter_none p [] h = refl
filter_none p (x ∷ xs) h =
    ap (λ b. cond b (x ∷ filter p xs) (filter p xs)) (h x (let e : one_if (x == x) ≡ 1 = ap one_if (eq-eqb x x refl) in omega (arith, e)))
    ∙ filter_none p xs (λ m c. h m (omega arith))

-- of those that pass one test, which pass another one that implies it
pub filter_twice : (p q : ℕ → Bool) → ((m : ℕ) → p m ≡ true → q m ≡ true) → (xs : List ℕ) → filter p (filter q xs) ≡ filter p xs
filter_twice p q h [] = refl
filter_twice p q h (x ∷ xs) = by (q x) refl (filter_twice p q h xs)
  where
    left : (b : Bool) → p x ≡ b → q x ≡ false → filter p xs ≡ cond b (x ∷ filter p xs) (filter p xs)
    left true e f = absurd (true≢false (sym (h x e) ∙ f))
    left false e f = refl

    by : (b : Bool) → q x ≡ b → filter p (filter q xs) ≡ filter p xs → filter p (cond b (x ∷ filter q xs) (filter q xs)) ≡ cond (p x) (x ∷ filter p xs) (filter p xs)
    by true e f = ap (λ l. cond (p x) (x ∷ l) l) f
    by false e f = f ∙ left (p x) refl e

-- a list by its numbers
map_append : {A : Type 0} (f : ℕ → A) (xs ys : List ℕ) → map f (xs ++ ys) ≡ map f xs ++ map f ys
map_append f [] ys = refl
map_append f (x ∷ xs) ys = ap (λ l. f x ∷ l) (map_append f xs ys)

listed_to : {A : Type 0} (xs : List A) (d : A) (n : ℕ) → n ≤ length xs → map (λ i. slice_index_or xs i d) (numbers_below n) ≡ take n xs
listed_to xs d zero le = sym (take_none xs)
  where
    take_none : {A : Type 0} (xs : List A) → take 0 xs ≡ []
    take_none [] = refl
    take_none (x ∷ xs) = refl
listed_to xs d (suc n) le =
    map_append (λ i. slice_index_or xs i d) (numbers_below n) (n ∷ [])
    ∙ ap (λ l. l ++ slice_index_or xs n d ∷ []) (listed_to xs d n (omega arith))
    ∙ sym (take_more xs n d le) ∙ ap (λ i. take i xs) {x = n + 1} {y = suc n} (omega arith)

pub listed : {A : Type 0} (xs : List A) (d : A) → map (λ i. slice_index_or xs i d) (numbers_below (length xs)) ≡ xs
listed xs d = listed_to xs d (length xs) (omega arith) ∙ take_all (length xs) xs (omega arith)

-- numbers that rise
abbrev pub Above : ℕ → List ℕ → Type 0
Above m [] = Unit {0}
Above m (x ∷ xs) = (m < x) × Above m xs

abbrev pub Ascending : List ℕ → Type 0
Ascending [] = Unit {0}
Ascending (x ∷ xs) = Above x xs × Ascending xs

abbrev pub Below : ℕ → List ℕ → Type 0
Below n [] = Unit {0}
Below n (x ∷ xs) = (x < n) × Below n xs

below_more : (n : ℕ) (xs : List ℕ) → Below n xs → Below (suc n) xs
below_more n [] h = tt
below_more n (x ∷ xs) h = (omega (arith, h.0), below_more n xs h.1)

above_end : (m n : ℕ) (xs : List ℕ) → m < n → Above m xs → Above m (xs ++ n ∷ [])
above_end m n [] lt h = (lt, tt)
above_end m n (x ∷ xs) lt h = (h.0, above_end m n xs lt h.1)

ascending_end : (n : ℕ) (xs : List ℕ) → Ascending xs → Below n xs → Ascending (xs ++ n ∷ [])
ascending_end n [] a b = (tt, tt)
ascending_end n (x ∷ xs) a b = (above_end x n xs b.0 a.0, ascending_end n xs a.1 b.1)

below_end : (n : ℕ) (xs : List ℕ) → Below n xs → Below (suc n) (xs ++ n ∷ [])
below_end n [] h = (omega arith, tt)
below_end n (x ∷ xs) h = (omega (arith, h.0), below_end n xs h.1)

append_none : (xs : List ℕ) → xs ++ [] ≡ xs
append_none [] = refl
append_none (x ∷ xs) = ap (λ l. x ∷ l) (append_none xs)

pub numbers_rise : (q : ℕ → Bool) (n : ℕ) → Ascending (filter q (numbers_below n)) × Below n (filter q (numbers_below n))
numbers_rise q zero = (tt, tt)
numbers_rise q (suc n) = subst (λ l. Ascending l × Below (suc n) l) (sym (filter_append q (numbers_below n) (n ∷ []))) (by (q n) (numbers_rise q n))
  where
    by : (b : Bool) → Ascending (filter q (numbers_below n)) × Below n (filter q (numbers_below n))
        → Ascending (filter q (numbers_below n) ++ cond b (n ∷ []) []) × Below (suc n) (filter q (numbers_below n) ++ cond b (n ∷ []) [])
    by true h = (ascending_end n _ h.0 h.1, below_end n _ h.1)
    by false h = subst (λ l. Ascending l × Below (suc n) l) (sym (append_none (filter q (numbers_below n)))) (h.0, below_more n _ h.1)

module _ (p keep : ℕ → Bool) (kept : (m : ℕ) → p m ≡ true → keep m ≡ true) where
  -- lists of which none stands before a number and has one that passes the test
  abbrev IsPast : ℕ → List ℕ → Type 0
  IsPast m list = (filter p list ≡ []) ⊎ (is_before m list ≡ true)

  abbrev ArePast : ℕ → List (List ℕ) → Type 0
  ArePast m [] = Unit {0}
  ArePast m (list ∷ lists) = IsPast m list × ArePast m lists

  before_less : (n m : ℕ) (list : List ℕ) → n < m → is_before m list ≡ true → is_before n list ≡ true
  before_less n m [] lt e = refl
  before_less n m (k ∷ ks) lt e = lt-ltb n k (let a : m < k = ltb-true m k e in omega (arith, a))

  past_less : (n m : ℕ) (list : List ℕ) → n < m → IsPast m list → IsPast n list
  past_less n m list lt (inl e) = inl e
  past_less n m list lt (inr e) = inr (before_less n m list lt e)

  all_past_less : (n m : ℕ) (lists : List (List ℕ)) → n < m → ArePast m lists → ArePast n lists
  all_past_less n m [] lt h = tt
  all_past_less n m (list ∷ lists) lt h = (past_less n m list lt h.0, all_past_less n m lists lt h.1)

  past_placed : (n m : ℕ) (lists : List (List ℕ)) → n < m → ArePast m lists → ArePast n (placed (m ∷ []) lists)
  past_placed n m [] lt h = (inr (lt-ltb n m lt), tt)
  past_placed n m (list ∷ lists) lt h = by (is_before m list) (past_placed n m lists lt h.1)
    where
      by : (b : Bool) → ArePast n (placed (m ∷ []) lists) → ArePast n (cond b ((m ∷ []) ∷ list ∷ lists) (list ∷ placed (m ∷ []) lists))
      by true r = (inr (lt-ltb n m lt), (past_less n m list lt h.0, all_past_less n m lists lt h.1))
      by false r = (past_less n m list lt h.0, r)

  joined_free : (list rest : List ℕ) → filter p list ≡ [] → filter p (list ++ rest) ≡ filter p rest
  joined_free list rest e = filter_append p list rest ∙ ap (λ l. l ++ filter p rest) e

  placed_first : (m : ℕ) (lists : List (List ℕ)) → ArePast m lists → filter p (in_turn (placed (m ∷ []) lists)) ≡ filter p (m ∷ in_turn lists)
  placed_first m [] h = refl
  placed_first m (list ∷ lists) h = by (is_before m list) refl h.0 (placed_first m lists h.1)
    where
      free : filter p list ≡ [] → filter p (in_turn (placed (m ∷ []) lists)) ≡ filter p (m ∷ in_turn lists) → filter p (list ++ in_turn (placed (m ∷ []) lists)) ≡ filter p (m ∷ list ++ in_turn lists)
      free e r = joined_free list (in_turn (placed (m ∷ []) lists)) e ∙ r ∙ sym (ap (λ l. cond (p m) (m ∷ l) l) (joined_free list (in_turn lists) e))

      by : (b : Bool) → is_before m list ≡ b → IsPast m list → filter p (in_turn (placed (m ∷ []) lists)) ≡ filter p (m ∷ in_turn lists)
          → filter p (in_turn (cond b ((m ∷ []) ∷ list ∷ lists) (list ∷ placed (m ∷ []) lists))) ≡ filter p (m ∷ list ++ in_turn lists)
      by true e i r = refl
      by false e (inl f) r = free f r
      by false e (inr f) r = absurd (true≢false (sym f ∙ e))

  -- rising numbers among lists without such
  pub owned_rise : (xs : List ℕ) (base : List (List ℕ)) → ((n : ℕ) → ArePast n base) → filter p (in_turn base) ≡ [] → Ascending xs
      → (filter p (in_turn (with_owned keep xs base)) ≡ filter p xs) × ((n : ℕ) → Above n xs → ArePast n (with_owned keep xs base))
  owned_rise [] base past free a = (free, λ n u. past n)
  owned_rise (m ∷ xs) base past free a = by (keep m) refl (owned_rise xs base past free a.1)
    where
      left : (b : Bool) → p m ≡ b → keep m ≡ false → filter p xs ≡ cond b (m ∷ filter p xs) (filter p xs)
      left true e f = absurd (true≢false (sym (kept m e) ∙ f))
      left false e f = refl

      by : (b : Bool) → keep m ≡ b
          → (filter p (in_turn (with_owned keep xs base)) ≡ filter p xs) × ((n : ℕ) → Above n xs → ArePast n (with_owned keep xs base))
          → (filter p (in_turn (cond b (placed (m ∷ []) (with_owned keep xs base)) (with_owned keep xs base))) ≡ filter p (m ∷ xs))
          × ((n : ℕ) → Above n (m ∷ xs) → ArePast n (cond b (placed (m ∷ []) (with_owned keep xs base)) (with_owned keep xs base)))
      by true e r = (placed_first m (with_owned keep xs base) (r.1 m a.0) ∙ ap (λ l. cond (p m) (m ∷ l) l) r.0, λ n u. past_placed n m (with_owned keep xs base) u.0 (r.1 m a.0))
      by false e r = (r.0 ∙ left (p m) refl e, λ n u. r.1 n u.1)

  pub base_past : (list : List ℕ) → filter p list ≡ [] → (n : ℕ) → ArePast n (placed list [])
  base_past [] e n = tt
  base_past (x ∷ xs) e n = (inl e, tt)

  pub base_free : (list : List ℕ) → filter p list ≡ [] → filter p (in_turn (placed list [])) ≡ []
  base_free [] e = refl
  base_free (x ∷ xs) e = joined_free (x ∷ xs) [] e
