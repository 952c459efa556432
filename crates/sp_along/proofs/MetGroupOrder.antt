-- The order of the groups of a loop.
use Rattle.std.proofs.Common.{◌≡◌, ℕ, zero, suc, ◌+◌, ◌-◌, ◌*◌, ◌<◌, ◌≤◌, ℤ, pos, ◌+ℤ◌, List, [], ◌∷◌, ◌++◌, length, length-append, map, get_or, inl, inr, arith, refl, sym, ap, ◌∙◌, subst}
use Rattle.std.specs.Prelude.{◌⊎◌}
use Rattle.std.specs.List.{All, flat_map}
use Rattle.std.proofs.lemmas.Bool.{cases_lt}
use Rattle.std.proofs.lemmas.Int.{ints}
use Rattle.std.proofs.lemmas.List.{get_or_append_left, get_or-append-add, get_or_push, length_push, get_or-map, length-map}
use Rattle.sp_core.specs.Elements.{numbers_below, count_below, values_below}
use Rattle.sp_core.specs.History.{Bounds}
use Rattle.sp_core.specs.PlainCore.{PlainCounter, PlainMem}
use Rattle.sp_core.specs.Scope.{Loop, in_lanes, loops_of, group_values}
use Rattle.sp_deps.specs.declared.access.LoopRange.{LoopRange}
use Rattle.sp_deps.specs.Access.{advance}
use Rattle.sp_deps.specs.Groups.{IsLater, AreGroupsOn}
use Rattle.sp_meets.specs.Around.{loop_of}
use Rattle.sp_along.specs.MetGroups.{HasSteps, HaveSteps}
use Rattle.sp_patterns.specs.declared.place.CounterPlace.{CounterPlace}

counted : (n : ℕ) → length (numbers_below n) ≡ n
counted zero = refl
counted (suc n) = let h = counted n in length_push (numbers_below n) n ∙ omega (arith, h)

number_at : (n i : ℕ) → i < n → get_or (numbers_below n) i 0 ≡ i
number_at zero i l = absurd (omega (arith, l))
number_at (suc n) i l = elim (cases_lt i n) [
  | inl q ↦ get_or_append_left (numbers_below n) (n ∷ []) 0 i (omega (arith, counted n, q)) ∙ number_at n i q
  | inr q ↦ let e : i ≡ n = omega (arith, q, l) in ap (λ j. get_or (numbers_below n ++ n ∷ []) j 0) e ∙ get_or_push (numbers_below n) n 0 n (counted n) ∙ sym e
]

-- the value of a counter at a place
value_at : (a b : ℤ) (step i : ℕ) → i < length (values_below a b step) → get_or (values_below a b step) i (pos 0) ≡ a +ℤ pos (i * step)
value_at a b step i l =
    let f : ℕ → ℤ = λ k. a +ℤ pos (k * step) in
    let numbers = numbers_below (count_below a b step) in
    let size : length (values_below a b step) ≡ length numbers = length-map numbers f in
    let below : i < length numbers = omega (arith, l, size) in
    get_or-map f numbers i 0 (pos 0) below ∙ ap f (number_at (count_below a b step) i (omega (arith, below, counted (count_below a b step))))

abbrev product : List ℤ → List (List ℤ) → List (List ℤ)
product xs others = flat_map (λ x. map (λ rest. x ∷ rest) others) xs

-- where an element of a product stands: its first value's place, and that of the others
record IsAt (xs : List ℤ) (others : List (List ℤ)) (i : ℕ) : Type 0 where
  row : ℕ
  place : ℕ
  is : i ≡ row * length others + place
  below : place < length others
  in_row : row < length xs
  value : get_or (product xs others) i [] ≡ get_or xs row (pos 0) ∷ get_or others place []

-- past the elements with the first value
later_row : (x : ℤ) (xs : List ℤ) (others : List (List ℤ)) (i j : ℕ) → length others + j ≡ i → IsAt xs others j → IsAt (x ∷ xs) others i
later_row x xs others i j e at =
    let size : length (map (λ (rest : List ℤ). x ∷ rest) others) + j ≡ i = ap (λ n. n + j) (length-map others (λ (rest : List ℤ). x ∷ rest)) ∙ e in
    record {
      row = suc at.row;
      place = at.place;
      is = omega (arith, e, at.is);
      below = at.below;
      in_row = omega (arith, at.in_row);
      value =
          ap (λ n. get_or (product (x ∷ xs) others) n []) (sym size)
          ∙ get_or-append-add (map (λ (rest : List ℤ). x ∷ rest) others) (product xs others) j []
          ∙ at.value;
    }

split_at : (xs : List ℤ) (others : List (List ℤ)) (i : ℕ) → i < length (product xs others) → IsAt xs others i
split_at [] others i l = absurd (omega arith)
split_at (x ∷ xs) others i l =
    let front : List (List ℤ) = map (λ (rest : List ℤ). x ∷ rest) others in
    let size : length front ≡ length others = length-map others (λ (rest : List ℤ). x ∷ rest) in
    elim (cases_lt i (length others)) [
      | inl q ↦ record {
        row = 0;
        place = i;
        is = omega arith;
        below = q;
        in_row = omega arith;
        value = get_or_append_left front (product xs others) [] i (omega (arith, q, size)) ∙ get_or-map (λ (rest : List ℤ). x ∷ rest) others i [] [] q;
      }
      | inr q ↦ later_row x xs others i (i - length others) (omega (arith, q)) (split_at xs others (i - length others) (omega (arith, l, q, size, length-append front (product xs others))))
    ]

-- the only element of a list of one
abbrev nothing : List ℤ
nothing = []

only : (i : ℕ) → get_or (nothing ∷ []) i nothing ≡ nothing
only zero = refl
only (suc i) = refl

-- of one counter's groups each has one value
lone : (xs : List ℤ) (i : ℕ) → i < length (product xs (nothing ∷ [])) → (get_or (product xs (nothing ∷ [])) i [] ≡ get_or xs i (pos 0) ∷ []) × (i < length xs)
lone xs i l =
    let at = split_at xs (nothing ∷ []) i l in
    let same : at.row ≡ i = omega (arith, at.is, at.below) in (
      at.value ∙ ap (λ r. get_or xs at.row (pos 0) ∷ r) (only at.place) ∙ ap (λ r. get_or xs r (pos 0) ∷ []) same,
      omega (arith, same, at.in_row),
    )

-- a value some groups on
moved : (a x y : ℤ) (step far g k i : ℕ) → step ≡ far → g + k ≡ i → x ≡ a +ℤ pos (g * step) → y ≡ a +ℤ pos (i * step) → y ≡ x +ℤ pos (k * far)
moved a x y step far g k i same is first second =
    let sum : i * step ≡ g * step + k * step = ap (λ n. n * step) (sym is) ∙ shared g k step in
    let more : k * step ≡ k * far = ap (λ n. k * n) same in
    joined a x y (g * step) (k * step) (i * step) (k * far) sum more first second
  where
    shared : (g k step : ℕ) → (g + k) * step ≡ g * step + k * step
    shared g k step = omega arith

    joined : (a x y : ℤ) (p q s r : ℕ) → s ≡ p + q → q ≡ r → x ≡ a +ℤ pos p → y ≡ a +ℤ pos s → y ≡ x +ℤ pos r
    joined a x y p q s r e f first second = omega (arith, ints)

-- a counter in a later row has gone on by some steps
gone_on : (r : LoopRange) (l : Loop) (c d : ℕ) → HasSteps r l → c < d → c < length (values_below l.from l.until l.advance) → d < length (values_below l.from l.until l.advance) →
    IsLater r (get_or (values_below l.from l.until l.advance) c (pos 0)) (get_or (values_below l.from l.until l.advance) d (pos 0))
gone_on r l c d h less first second =
    let xs = values_below l.from l.until l.advance in
    let on : get_or xs d (pos 0) ≡ get_or xs c (pos 0) +ℤ pos ((d - c) * advance r) =
    moved l.from (get_or xs c (pos 0)) (get_or xs d (pos 0)) l.advance (advance r) c (d - c) d h.0 (omega (arith, less)) (value_at l.from l.until l.advance c first) (value_at l.from l.until l.advance d second) in
    ((d - c) * r.par, some (d - c) r.par (omega (arith, less)) h.1, on ∙ ap (λ n. get_or xs c (pos 0) +ℤ pos n) (apart (d - c) r.by r.par))
  where
    some : (a b : ℕ) → 1 ≤ a → 1 ≤ b → 1 ≤ a * b
    some (suc a) (suc b) h k = omega arith
    some zero b h k = absurd (omega arith)
    some (suc a) zero h k = absurd (omega arith)

    apart : (n by par : ℕ) → n * (by * par) ≡ (n * par) * by
    apart n by par = omega arith

-- places in a row of elements by their first values
same_row : (n a b c d k : ℕ) → (a * n + b) + k ≡ c * n + d → a ≡ c → b + k ≡ d
same_row n a b c d k e f = let g : a * n ≡ c * n = ap (λ x. x * n) f in omega (arith, e, g)

next_row : (n a b c d k : ℕ) → (a * n + b) + k ≡ c * n + d → b < n → a < c → 1 ≤ k
next_row n a b c d k e l less =
    let more : c * n ≡ a * n + (n + (c - suc a) * n) = apart n a c less in
    omega (arith, e, l, more)
  where
    apart : (n a c : ℕ) → a < c → c * n ≡ a * n + (n + (c - suc a) * n)
    apart n a c l = let e : c ≡ a + (1 + (c - suc a)) = omega (arith, l) in ap (λ x. x * n) e ∙ spread n a (c - suc a)
      where
        spread : (n a m : ℕ) → (a + (1 + m)) * n ≡ a * n + (n + m * n)
        spread n a m = omega arith

no_row_back : (n a b c d k : ℕ) → (a * n + b) + k ≡ c * n + d → d < n → c < a → ⊥
no_row_back n a b c d k e l less =
    let more : a * n ≡ c * n + (n + (a - suc c) * n) = apart n c a less in
    omega (arith, e, l, more)
  where
    apart : (n a c : ℕ) → a < c → c * n ≡ a * n + (n + (c - suc a) * n)
    apart n a c l = let e : c ≡ a + (1 + (c - suc a)) = omega (arith, l) in ap (λ x. x * n) e ∙ spread n a (c - suc a)
      where
        spread : (n a m : ℕ) → (a + (1 + m)) * n ≡ a * n + (n + m * n)
        spread n a m = omega arith

-- by the places of both in their rows
in_rows : (r m : LoopRange) (ranges : List LoopRange) (l : Loop) (others : List (List ℤ)) (g k i : ℕ) → HasSteps r l → g + k ≡ i →
    (at : IsAt (values_below l.from l.until l.advance) others g) → (to : IsAt (values_below l.from l.until l.advance) others i) →
    (at.place + k ≡ to.place → AreGroupsOn (m ∷ ranges) (get_or others at.place []) (get_or others to.place []) k) →
    AreGroupsOn (r ∷ m ∷ ranges) (get_or (product (values_below l.from l.until l.advance) others) g []) (get_or (product (values_below l.from l.until l.advance) others) i []) k
in_rows r m ranges l others g k i h is at to inside =
    let xs = values_below l.from l.until l.advance in
    let sum : (at.row * length others + at.place) + k ≡ to.row * length others + to.place = ap (λ n. n + k) (sym at.is) ∙ is ∙ to.is in
    let P : List ℤ → List ℤ → Type 0 = λ x y. AreGroupsOn (r ∷ m ∷ ranges) x y k in
    let done : P (get_or xs at.row (pos 0) ∷ get_or others at.place []) (get_or xs to.row (pos 0) ∷ get_or others to.place []) = by_row xs sum (cases_lt at.row to.row) in
    subst (λ x. P x (get_or (product xs others) i [])) (sym at.value) (subst (P (get_or xs at.row (pos 0) ∷ get_or others at.place [])) (sym to.value) done)
  where
    by_row : (xs : List ℤ) → (at.row * length others + at.place) + k ≡ to.row * length others + to.place → (at.row < to.row) ⊎ (to.row ≤ at.row) →
        ((get_or (values_below l.from l.until l.advance) at.row (pos 0) ≡ get_or (values_below l.from l.until l.advance) to.row (pos 0)) × AreGroupsOn (m ∷ ranges) (get_or others at.place []) (get_or others to.place []) k)
        ⊎ (IsLater r (get_or (values_below l.from l.until l.advance) at.row (pos 0)) (get_or (values_below l.from l.until l.advance) to.row (pos 0)) × (1 ≤ k))
    by_row xs sum (inl less) = inr (gone_on r l at.row to.row h less at.in_row to.in_row, next_row (length others) at.row at.place to.row to.place k sum at.below less)
    by_row xs sum (inr le) = same_or_back (cases_lt to.row at.row)
      where
        same_or_back : (to.row < at.row) ⊎ (at.row ≤ to.row) →
            ((get_or (values_below l.from l.until l.advance) at.row (pos 0) ≡ get_or (values_below l.from l.until l.advance) to.row (pos 0)) × AreGroupsOn (m ∷ ranges) (get_or others at.place []) (get_or others to.place []) k)
            ⊎ (IsLater r (get_or (values_below l.from l.until l.advance) at.row (pos 0)) (get_or (values_below l.from l.until l.advance) to.row (pos 0)) × (1 ≤ k))
        same_or_back (inl less) = absurd (no_row_back (length others) at.row at.place to.row to.place k sum to.below less)
        same_or_back (inr ge) =
            let same : at.row ≡ to.row = omega (arith, le, ge) in
            inl (ap (λ n. get_or (values_below l.from l.until l.advance) n (pos 0)) same, inside (same_row (length others) at.row at.place to.row to.place k sum same))

pub groups_go_on : (ranges : List LoopRange) (loops : List Loop) (g k i : ℕ) → HaveSteps ranges loops → g + k ≡ i → i < length (group_values loops) →
    AreGroupsOn ranges (get_or (group_values loops) g []) (get_or (group_values loops) i []) k
groups_go_on [] [] g k i h is l =
    let none : k ≡ 0 = omega (arith, is, l) in
    subst (λ x. AreGroupsOn [] x (get_or (nothing ∷ []) i nothing) k) (sym (only g)) (subst (λ y. AreGroupsOn [] [] y k) (sym (only i)) none)
groups_go_on [] (l ∷ loops) g k i h is less = absurd h
groups_go_on (r ∷ ranges) [] g k i h is less = absurd h
groups_go_on (r ∷ []) (l ∷ []) g k i h is less =
    let xs = values_below l.from l.until l.advance in
    let at = lone xs g (omega (arith, is, less)) in
    let to = lone xs i less in
    let on : get_or xs i (pos 0) ≡ get_or xs g (pos 0) +ℤ pos (k * advance r) =
    moved l.from (get_or xs g (pos 0)) (get_or xs i (pos 0)) l.advance (advance r) g k i h.0.0 is (value_at l.from l.until l.advance g at.1) (value_at l.from l.until l.advance i to.1) in
    subst (λ x. AreGroupsOn (r ∷ []) x (get_or (product xs (nothing ∷ [])) i []) k) (sym at.0) (subst (λ y. AreGroupsOn (r ∷ []) (get_or xs g (pos 0) ∷ []) y k) (sym to.0) on)
groups_go_on (r ∷ []) (l ∷ m ∷ loops) g k i h is less = absurd h.1
groups_go_on (r ∷ s ∷ ranges) (l ∷ []) g k i h is less = absurd h.1
groups_go_on (r ∷ s ∷ ranges) (l ∷ m ∷ loops) g k i h is less =
    let xs = values_below l.from l.until l.advance in
    let others = group_values (m ∷ loops) in
    let at = split_at xs others g (omega (arith, is, less)) in
    let to = split_at xs others i less in
    in_rows r s ranges l others g k i h.0 is at to (λ e. groups_go_on (s ∷ ranges) (m ∷ loops) at.place k to.place h.1 e to.below)

pub have_steps : (mems : List PlainMem) (places : List CounterPlace) (counters : List PlainCounter) (bs : List Bounds) → length bs ≡ length counters →
    All (λ (c : PlainCounter). 1 ≤ c.par) counters → HaveSteps (map (loop_of mems places) counters) (loops_of in_lanes counters bs)
have_steps mems places [] [] e all = tt
have_steps mems places [] (b ∷ bs) e all = tt
have_steps mems places (c ∷ counters) [] e all = absurd (omega arith)
have_steps mems places (c ∷ counters) (b ∷ bs) e all =
    ((refl, all 0 c (omega arith)), have_steps mems places counters bs (omega arith) (λ k d l. all (suc k) d (omega arith)))
