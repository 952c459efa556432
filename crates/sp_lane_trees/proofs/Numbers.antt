-- Where memories of a kind stand in an order.
use Rattle.std.proofs.Common.{◌≡◌, ℕ, zero, suc, ◌+◌, ◌<◌, ◌≤◌, Bool, true, false, cond, ◌||◌, List, [], ◌∷◌, ◌++◌, length, map, refl, sym, ◌∙◌, ap, subst, arith, inl, inr, ◌==◌}
use Rattle.std.proofs.lemmas.Bool.{true≢false, eq-eqb, ne_eqb, or_right}
use Rattle.std.proofs.lemmas.Bool.Decides.{eqb_tells}
use Rattle.std.proofs.lemmas.List.{length-append}
use Rattle.std.specs.Prelude.{filter, if◌then◌else◌}
use Rattle.sp_words.specs.declared.kind.Kind.{Kind}
use Rattle.sp_core.specs.Declarations.{is_among}
use Rattle.sp_core.specs.Elements.{numbers_below}
use Rattle.sp_core.specs.Meaning.{numbers_of}
use Rattle.sp_core.specs.PlainCore.{PlainMem}
use Rattle.sp_lanes.specs.Order.{occurrence}
use Rattle.sp_lane_rules.specs.Copies.{one_if, occurrences}
use Rattle.sp_lane_rules.proofs.CopiesMemoryRules.{count_among}
use Rattle.sp_lane_rules.proofs.UnrolledPlaces.{among_both}

pub map_same : {A : Type 0} (g h : ℕ → A) (xs : List ℕ) → ((m : ℕ) → is_among m xs ≡ true → g m ≡ h m) → map g xs ≡ map h xs
map_same g h [] f = refl
map_same g h (x ∷ xs) f = ap (λ a. a ∷ map g xs) (f x (ap (λ b. b || is_among x xs) (eq-eqb x x refl))) ∙ ap (λ l. h x ∷ l) (map_same g h xs (λ m i. f m (or_right (m == x) (is_among m xs) i)))

pub map_twice : {A : Type 0} (g : ℕ → A) (h : ℕ → ℕ) (xs : List ℕ) → map g (map h xs) ≡ map (λ m. g (h m)) xs
map_twice g h [] = refl
map_twice g h (x ∷ xs) = ap (λ l. g (h x) ∷ l) (map_twice g h xs)

pub map_self : (xs : List ℕ) → map (λ m. m) xs ≡ xs
map_self [] = refl
map_self (x ∷ xs) = ap (λ l. x ∷ l) (map_self xs)

-- what is filtered passes, and stands no more often
pub passes : (p : ℕ → Bool) (xs : List ℕ) (m : ℕ) → is_among m (filter p xs) ≡ true → (p m ≡ true) × (is_among m xs ≡ true)
passes p [] m i = absurd (true≢false (sym i))
passes p (x ∷ xs) m i = by (p x) refl (passes p xs m) i
  where
    first : p x ≡ true → (b : Bool) → (m == x) ≡ b → (is_among m (filter p xs) ≡ true → (p m ≡ true) × (is_among m xs ≡ true)) → (b || is_among m (filter p xs)) ≡ true → (p m ≡ true) × ((b || is_among m xs) ≡ true)
    first e true s rest j = (subst (λ k. p k ≡ true) (sym (same s)) e, refl)
      where
        same : (m == x) ≡ true → m ≡ x
        same s = elim (eqb_tells m x) [ inl t ↦ t.1 | inr t ↦ absurd (true≢false (sym s ∙ t.0)) ]
    first e false s rest j = rest j

    by : (b : Bool) → p x ≡ b → (is_among m (filter p xs) ≡ true → (p m ≡ true) × (is_among m xs ≡ true)) → is_among m (cond b (x ∷ filter p xs) (filter p xs)) ≡ true → (p m ≡ true) × (is_among m (x ∷ xs) ≡ true)
    by true e rest j = first e (m == x) refl rest j
    by false e rest j = let r = rest j in (r.0, or_right (m == x) (is_among m xs) r.1)

pub fewer : (p : ℕ → Bool) (xs : List ℕ) (m : ℕ) → occurrences m (filter p xs) ≤ occurrences m xs
fewer p [] m = omega arith
fewer p (x ∷ xs) m = by (p x) (fewer p xs m)
  where
    by : (b : Bool) → occurrences m (filter p xs) ≤ occurrences m xs → occurrences m (cond b (x ∷ filter p xs) (filter p xs)) ≤ one_if (x == m) + occurrences m xs
    by true le = omega (arith, le)
    by false le = omega (arith, le)

-- numbers below a bound
count_end : (m n : ℕ) (xs : List ℕ) → occurrences m (xs ++ n ∷ []) ≡ occurrences m xs + one_if (n == m)
count_end m n [] = omega arith
count_end m n (x ∷ xs) = omega (arith, count_end m n xs)

below_none : (m n : ℕ) → n ≤ m → occurrences m (numbers_below n) ≡ 0
below_none m zero le = refl
below_none m (suc n) le =
    let e : one_if (n == m) ≡ 0 = ap one_if (ne_eqb n m (λ s. past n m le s)) in
    let f : occurrences m (numbers_below n) ≡ 0 = below_none m n (omega (arith, le)) in
    count_end m n (numbers_below n) ∙ omega (arith, e, f)
  where
    past : (n m : ℕ) → suc n ≤ m → n ≡ m → ⊥
    past n m le s = omega (arith, le, s)

one_at_most : (b : Bool) → one_if b ≤ 1
one_at_most true = omega arith
one_at_most false = omega arith

pub below_once : (m n : ℕ) → occurrences m (numbers_below n) ≤ 1
below_once m zero = omega arith
below_once m (suc n) = elim (eqb_tells n m) [
  | inl same ↦ (let f : occurrences m (numbers_below n) ≡ 0 = below_none m n (omega (arith, same.1)) in omega (arith, f, count_end m n (numbers_below n), one_at_most (n == m)))
  | inr apart ↦ (let e : one_if (n == m) ≡ 0 = ap one_if apart.0 in omega (arith, e, count_end m n (numbers_below n), below_once m n))
]

-- where a number stands at first
pub later : (m x : ℕ) (rest : List ℕ) → (x ≡ m → ⊥) → occurrence m 0 (x ∷ rest) ≡ suc (occurrence m 0 rest)
later m x rest ne = ap (λ b. if b then 0 else suc (occurrence m 0 rest)) (ne_eqb x m ne)

pub here : (m : ℕ) (rest : List ℕ) → occurrence m 0 (m ∷ rest) ≡ 0
here m rest = ap (λ b. if b then 0 else suc (occurrence m 0 rest)) (eq-eqb m m refl)

module _ (is : Kind → Bool) (f : ℕ → PlainMem) where
  abbrev pub test : ℕ → Bool
  test m = is (f m).kind

  -- numbers of a kind are where they stand, if none stands twice
  pub numbers_at : (first : ℕ) (order : List ℕ) → ((m : ℕ) → occurrences m (filter test order) ≤ 1) → numbers_of is first (map f order) ≡ map (λ m. first + occurrence m 0 order) (filter test order)
  numbers_at first [] once = refl
  numbers_at first (x ∷ rest) once = by (test x) refl (λ o. numbers_at (suc first) rest o) once
    where
      same_place : (m : ℕ) → (x ≡ m → ⊥) → suc first + occurrence m 0 rest ≡ first + occurrence m 0 (x ∷ rest)
      same_place m ne = omega (arith, later m x rest ne)

      at_first : first ≡ first + occurrence x 0 (x ∷ rest)
      at_first = omega (arith, here x rest)

      by : (b : Bool) → test x ≡ b → (((m : ℕ) → occurrences m (filter test rest) ≤ 1) → numbers_of is (suc first) (map f rest) ≡ map (λ m. suc first + occurrence m 0 rest) (filter test rest))
          → ((m : ℕ) → occurrences m (cond b (x ∷ filter test rest) (filter test rest)) ≤ 1)
          → (if b then first ∷ [] else []) ++ numbers_of is (suc first) (map f rest) ≡ map (λ m. first + occurrence m 0 (x ∷ rest)) (cond b (x ∷ filter test rest) (filter test rest))
      by true e go once =
          ap (λ l. first ∷ l) (go (λ m. let o = once m in omega (arith, o)) ∙ map_same (λ m. suc first + occurrence m 0 rest) (λ m. first + occurrence m 0 (x ∷ rest)) (filter test rest)
          (λ m i. same_place m (λ s. twice m i s (once m))))
          ∙ ap (λ k. k ∷ map (λ m. first + occurrence m 0 (x ∷ rest)) (filter test rest)) at_first
        where
          twice : (m : ℕ) → is_among m (filter test rest) ≡ true → x ≡ m → occurrences m (x ∷ filter test rest) ≤ 1 → ⊥
          twice m i s o = let c : 1 ≤ occurrences m (filter test rest) = count_among m (filter test rest) i in let k : one_if (x == m) ≡ 1 = ap one_if (eq-eqb x m s) in omega (arith, c, k, o)
      by false e go once =
          go once ∙ map_same (λ m. suc first + occurrence m 0 rest) (λ m. first + occurrence m 0 (x ∷ rest)) (filter test rest)
          (λ m i. same_place m (λ s. true≢false (sym (passes test rest m i).0 ∙ ap test (sym s) ∙ e)))

-- where a number stands in a list of two parts
place_front : (m : ℕ) (xs ys : List ℕ) → is_among m xs ≡ true → occurrence m 0 (xs ++ ys) ≡ occurrence m 0 xs
place_front m [] ys i = absurd (true≢false (sym i))
place_front m (x ∷ xs) ys i = elim (eqb_tells x m) [
  | inl same ↦ ap (λ b. if b then 0 else suc (occurrence m 0 (xs ++ ys))) same.0 ∙ sym (ap (λ b. if b then 0 else suc (occurrence m 0 xs)) same.0)
  | inr apart ↦
      later m x (xs ++ ys) apart.1 ∙ ap suc (place_front m xs ys (sym (ap (λ b. b || is_among m xs) (ne_eqb m x (λ s. apart.1 (sym s)))) ∙ i)) ∙ sym (later m x xs apart.1)
]

place_back : (m : ℕ) (xs ys : List ℕ) → is_among m xs ≡ false → occurrence m 0 (xs ++ ys) ≡ length xs + occurrence m 0 ys
place_back m [] ys i = omega arith
place_back m (x ∷ xs) ys i = elim (eqb_tells x m) [
  | inl same ↦ absurd (true≢false (sym (ap (λ b. b || is_among m xs) (eq-eqb m x (sym same.1))) ∙ i))
  | inr apart ↦
      let rest : occurrence m 0 (xs ++ ys) ≡ length xs + occurrence m 0 ys = place_back m xs ys (sym (ap (λ b. b || is_among m xs) (ne_eqb m x (λ s. apart.1 (sym s)))) ∙ i) in
      omega (arith, later m x (xs ++ ys) apart.1, rest)
]

below_long : (n : ℕ) → length (numbers_below n) ≡ n
below_long zero = refl
below_long (suc n) = omega (arith, length-append (numbers_below n) (n ∷ []), below_long n)

-- numbers below a bound stand at themselves
pub below_place : (m n : ℕ) → is_among m (numbers_below n) ≡ true → occurrence m 0 (numbers_below n) ≡ m
below_place m zero i = absurd (true≢false (sym i))
below_place m (suc n) i = by (is_among m (numbers_below n)) refl (λ j. below_place m n j) (sym (among_both m (numbers_below n) (n ∷ [])) ∙ i)
  where
    last : (b : Bool) → (m == n) ≡ b → (b || false) ≡ true → m ≡ n
    last true e j = elim (eqb_tells m n) [ inl t ↦ t.1 | inr t ↦ absurd (true≢false (sym e ∙ t.0)) ]
    last false e j = absurd (true≢false (sym j))

    by : (b : Bool) → is_among m (numbers_below n) ≡ b → (is_among m (numbers_below n) ≡ true → occurrence m 0 (numbers_below n) ≡ m) → (b || (is_among m (n ∷ []))) ≡ true → occurrence m 0 (numbers_below n ++ n ∷ []) ≡ m
    by true e go j = place_front m (numbers_below n) (n ∷ []) e ∙ go e
    by false e go j =
        let same : m ≡ n = last (m == n) refl j in
        let first : occurrence m 0 (n ∷ []) ≡ 0 = ap (λ k. occurrence m 0 (k ∷ [])) (sym same) ∙ here m [] in
        place_back m (numbers_below n) (n ∷ []) e ∙ omega (arith, first, below_long n, same)

-- and are below it
pub below_less : (m n : ℕ) → is_among m (numbers_below n) ≡ true → m < n
below_less m n i = by n i (count_among m (numbers_below n) i)
  where
    less : (m n : ℕ) → (n ≤ m → ⊥) → m < n
    less m n h = omega (arith, h)

    by : (n : ℕ) → is_among m (numbers_below n) ≡ true → 1 ≤ occurrences m (numbers_below n) → m < n
    by n i some = less m n (λ le. let none : occurrences m (numbers_below n) ≡ 0 = below_none m n le in omega (arith, some, none))
