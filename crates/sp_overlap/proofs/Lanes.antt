-- How the stages of an outer body stand in their lanes, and what that says of their slots.
use Rattle.std.proofs.Common.{◌≡◌, ℕ, zero, suc, ◌+◌, ◌-◌, ◌*◌, ◌/◌, ◌%◌, ◌<◌, ◌≤◌, ◌⊎◌, inl, inr, Bool, true, false, cond, List, [], ◌∷◌, length, arith, refl, sym, subst, ap, ◌∙◌}
use Rattle.std.proofs.Math.Nat.{div-add-mod', mod-lt, div-lt_iff_lt-mul, suc-mul}
use Rattle.std.proofs.lemmas.Bool.{and_parts, cases_lt, eq-eqb, eqb-true, ltb-true, cases_Bool, true≢false, false≢true}
use Rattle.std.specs.List.{list_all}
use Rattle.std.specs.Prelude.{◌==◌, ◌&&◌, ◌||◌, not, filter, nat_lt, slice_index}
use Rattle.sp_core.proofs.TreeLemmas.{below_fails}
use Rattle.sp_core.specs.Around.{lanes_of}
use Rattle.sp_core.specs.Elements.{numbers_below}
use Rattle.sp_core.specs.NodeRules.{single_lanes, after_singles, count_zeros, are_lane_by_lane, is_of_all_lanes, is_no_lane, are_lanes_right}
use Rattle.sp_core.specs.Numbering.{number_count}
use Rattle.sp_core.specs.PlainCore.{PlainCounter, PlainStages, no_stage, more_stage}
use Rattle.sp_plan.specs.Slots.{StageRun, runs_of, is_of_all, is_in_lane_0, run_at, lane_size, stage_of}

-- what all numbers below one pass, each does
pub all_below : (p : ℕ → Bool) (n i : ℕ) → list_all p (numbers_below n) ≡ true → i < n → p i ≡ true
all_below p n i h l = elim (cases_Bool (p i)) [
  | inl e ↦ e
  | inr e ↦ absurd (true≢false (sym h ∙ below_fails p n i l e))
]

pub or_choose : (x y : Bool) → (x || y) ≡ true → (x ≡ true) ⊎ (y ≡ true)
or_choose true y h = inl refl
or_choose false y h = inr h

-- how the stages stand
pub record Lanes (runs : List StageRun) : Type 0 where
  pub lane_0 : (i : ℕ) → i < lane_size runs → (i < length runs) × (is_of_all (run_at runs i) ≡ false) × ((run_at runs i).first ≡ 0)
  pub in_lane : (p : ℕ) → p < length runs → is_of_all (run_at runs p) ≡ false → stage_of runs p < lane_size runs
  pub only : (p q : ℕ) → p < q → q < length runs → is_of_all (run_at runs p) ≡ false

-- the stages of one lane each stand first
single_here : (n : ℕ) (stages : PlainStages) (p : ℕ) → p < length (single_lanes stages) → (p < length (runs_of n stages)) × (is_of_all (run_at (runs_of n stages) p) ≡ false) × ((run_at (runs_of n stages) p).first ≡ slice_index (single_lanes stages) p)
single_here n no_stage p l = absurd (omega (arith, l))
single_here n (more_stage first last comb node rest) p l = go (λ q m. single_here (n + number_count node) rest q m) (first == last) refl p l
  where
    go : ((q : ℕ) → q < length (single_lanes rest) → (q < length (runs_of (n + number_count node) rest)) × (is_of_all (run_at (runs_of (n + number_count node) rest) q) ≡ false) × ((run_at (runs_of (n + number_count node) rest) q).first ≡ slice_index (single_lanes rest) q))
        → (b : Bool) → (first == last) ≡ b → (p : ℕ) → p < length (elim b as (λ _. List ℕ) [ true ↦ first ∷ single_lanes rest | false ↦ [] ])
        → (p < suc (length (runs_of (n + number_count node) rest))) × (is_of_all (run_at (runs_of n (more_stage first last comb node rest)) p) ≡ false)
        × ((run_at (runs_of n (more_stage first last comb node rest)) p).first ≡ slice_index (elim b as (λ _. List ℕ) [ true ↦ first ∷ single_lanes rest | false ↦ [] ]) p)
    go others false e p l = absurd (omega (arith, l))
    go others true e zero l = (omega arith, ap not e, refl)
    go others true e (suc p) l = let h = others p (omega arith) in (let a : p < length (runs_of (n + number_count node) rest) = h.0 in omega arith, h.1, h.2)

-- after them at most one
after_here : (lanes n : ℕ) (stages : PlainStages) → is_of_all_lanes lanes (after_singles stages) ≡ true → (p : ℕ) → p < length (runs_of n stages) → length (single_lanes stages) ≤ p
    → (p ≡ length (single_lanes stages)) × (suc p ≡ length (runs_of n stages)) × (is_of_all (run_at (runs_of n stages) p) ≡ true) × (2 ≤ lanes)
after_here lanes n no_stage h p l q = absurd (omega (arith, l))
after_here lanes n (more_stage first last comb node rest) h p l q = go (λ h p l q. after_here lanes (n + number_count node) rest h p l q) (first == last) refl h p l q
  where
    two_at_least : (first == last) ≡ false → ((first == 0) && (last == lanes - 1)) ≡ true → 2 ≤ lanes
    two_at_least e h =
        let parts = and_parts (first == 0) (last == lanes - 1) h in
        let a : first ≡ 0 = eqb-true _ _ parts.0 in
        let b : last ≡ lanes - 1 = eqb-true _ _ parts.1 in
        elim (cases_Bool (last == 0)) [
          | inl z ↦ absurd (true≢false (sym (eq-eqb first last (a ∙ sym (eqb-true _ _ z))) ∙ e))
          | inr z ↦ go2 lanes b z
        ]
      where
        go2 : (lanes : ℕ) → last ≡ lanes - 1 → (last == 0) ≡ false → 2 ≤ lanes
        go2 zero b z = absurd (true≢false (sym (eq-eqb last 0 (omega arith)) ∙ z))
        go2 (suc zero) b z = absurd (true≢false (sym (eq-eqb last 0 (omega arith)) ∙ z))
        go2 (suc (suc m)) b z = omega arith

    alone : (rest : PlainStages) → is_of_all_lanes lanes (more_stage first last comb node rest) ≡ true → (length (runs_of (n + number_count node) rest) ≡ 0) × (((first == 0) && (last == lanes - 1)) ≡ true)
    alone no_stage h = (refl, h)
    alone (more_stage f l c d r) h = absurd (false≢true h)

    go : (is_of_all_lanes lanes (after_singles rest) ≡ true → (p : ℕ) → p < length (runs_of (n + number_count node) rest) → length (single_lanes rest) ≤ p
        → (p ≡ length (single_lanes rest)) × (suc p ≡ length (runs_of (n + number_count node) rest)) × (is_of_all (run_at (runs_of (n + number_count node) rest) p) ≡ true) × (2 ≤ lanes))
        → (b : Bool) → (first == last) ≡ b → is_of_all_lanes lanes (elim b as (λ _. PlainStages) [ true ↦ after_singles rest | false ↦ more_stage first last comb node rest ]) ≡ true
        → (p : ℕ) → p < suc (length (runs_of (n + number_count node) rest)) → length (elim b as (λ _. List ℕ) [ true ↦ first ∷ single_lanes rest | false ↦ [] ]) ≤ p
        → (p ≡ length (elim b as (λ _. List ℕ) [ true ↦ first ∷ single_lanes rest | false ↦ [] ])) × (suc p ≡ suc (length (runs_of (n + number_count node) rest)))
        × (is_of_all (run_at (runs_of n (more_stage first last comb node rest)) p) ≡ true) × (2 ≤ lanes)
    go others true e h zero l q = absurd (omega (arith, q))
    go others true e h (suc p) l q =
        let r = others h p (omega arith) (omega arith) in
        (let a : p ≡ length (single_lanes rest) = r.0 in omega arith, let a : suc p ≡ length (runs_of (n + number_count node) rest) = r.1 in omega arith, r.2, r.3)
    go others false e h zero l q = let a = alone rest h in (refl, let z : length (runs_of (n + number_count node) rest) ≡ 0 = a.0 in omega arith, ap not e, two_at_least e a.1)
    go others false e h (suc p) l q = let a : length (runs_of (n + number_count node) rest) ≡ 0 = (alone rest h).0 in absurd (omega arith)

-- how many stand in lane 0
size_here : (lanes n : ℕ) (stages : PlainStages) → is_of_all_lanes lanes (after_singles stages) ≡ true → lane_size (runs_of n stages) ≡ count_zeros (single_lanes stages)
size_here lanes n no_stage h = refl
size_here lanes n (more_stage first last comb node rest) h = go (λ h. size_here lanes (n + number_count node) rest h) (first == last) refl h
  where
    run : StageRun
    run = record { from = n; until = n + number_count node; first = first; last = last }

    after : List StageRun
    after = runs_of (n + number_count node) rest

    none : (rest : PlainStages) → is_of_all_lanes lanes (more_stage first last comb node rest) ≡ true → length (filter is_in_lane_0 (runs_of (n + number_count node) rest)) ≡ 0
    none no_stage h = refl
    none (more_stage f l c d r) h = absurd (false≢true h)

    counted : (b : Bool) → length (cond b (run ∷ filter is_in_lane_0 after) (filter is_in_lane_0 after)) ≡ cond b (1 + length (filter is_in_lane_0 after)) (length (filter is_in_lane_0 after))
    counted true = let e : suc (length (filter is_in_lane_0 after)) ≡ 1 + length (filter is_in_lane_0 after) = omega arith in e
    counted false = refl

    chosen : (b : Bool) (m : ℕ) → cond b (1 + m) m ≡ elim b as (λ _. ℕ) [ true ↦ 1 + m | false ↦ m ]
    chosen true m = refl
    chosen false m = refl

    go : (is_of_all_lanes lanes (after_singles rest) ≡ true → lane_size (runs_of (n + number_count node) rest) ≡ count_zeros (single_lanes rest))
        → (b : Bool) → (first == last) ≡ b → is_of_all_lanes lanes (elim b as (λ _. PlainStages) [ true ↦ after_singles rest | false ↦ more_stage first last comb node rest ]) ≡ true
        → length (filter is_in_lane_0 (run ∷ after)) ≡ count_zeros (elim b as (λ _. List ℕ) [ true ↦ first ∷ single_lanes rest | false ↦ [] ])
    go others true e h =
        let here : is_in_lane_0 run ≡ (first == 0) = ap (λ t. not (not t) && (first == 0)) e in
        ap (λ t. length (cond t (run ∷ filter is_in_lane_0 after) (filter is_in_lane_0 after))) here
        ∙ counted (first == 0) ∙ chosen (first == 0) (length (filter is_in_lane_0 after))
        ∙ ap (λ m. elim (first == 0) as (λ _. ℕ) [ true ↦ 1 + m | false ↦ m ]) (others h)
    go others false e h =
        let here : is_in_lane_0 run ≡ false = ap (λ t. not (not t) && (first == 0)) e in
        ap (λ t. length (cond t (run ∷ filter is_in_lane_0 after) (filter is_in_lane_0 after))) here ∙ counted false ∙ none rest h

-- lane by lane
lane_here : (n i : ℕ) (ls : List ℕ) → are_lane_by_lane n i ls ≡ true → (p : ℕ) → p < length ls → slice_index ls p ≡ (i + p) / n
lane_here n i [] h p l = absurd (omega (arith, l))
lane_here n i (x ∷ ls) h zero l = eqb-true _ _ (and_parts (x == i / n) (are_lane_by_lane n (i + 1) ls) h).0 ∙ ap (λ k. k / n) (let e : i ≡ i + 0 = omega arith in e)
lane_here n i (x ∷ ls) h (suc p) l =
    lane_here n (i + 1) ls (and_parts (x == i / n) (are_lane_by_lane n (i + 1) ls) h).1 p (omega arith) ∙ ap (λ k. k / n) (let e : i + 1 + p ≡ i + suc p = omega arith in e)

few_zeros : (ls : List ℕ) → count_zeros ls ≤ length ls
few_zeros [] = omega arith
few_zeros (l ∷ ls) = go (few_zeros ls) (l == 0)
  where
    go : count_zeros ls ≤ length ls → (b : Bool) → (elim b as (λ _. ℕ) [ true ↦ 1 + count_zeros ls | false ↦ count_zeros ls ]) ≤ suc (length ls)
    go a true = omega arith
    go a false = omega arith

some_zero : (l : ℕ) (ls : List ℕ) → l ≡ 0 → 0 < count_zeros (l ∷ ls)
some_zero l ls e = subst (λ b. 0 < elim b as (λ _. ℕ) [ true ↦ 1 + count_zeros ls | false ↦ count_zeros ls ]) (sym (eq-eqb l 0 e)) (omega arith)

zero_by : (n : ℕ) → 0 / n ≡ 0
zero_by zero = refl
zero_by (suc n) = let a : 0 / suc n * suc n + 0 % suc n ≡ 0 = div-add-mod' 0 (suc n) in under (0 / suc n) a
  where
    under : (d : ℕ) → d * suc n + 0 % suc n ≡ 0 → d ≡ 0
    under zero e = refl
    under (suc d) e = absurd (let s : suc d * suc n ≡ d * suc n + suc n = suc-mul d (suc n) in omega (arith, e, s))

small_by : (i n : ℕ) → i < n → i / n ≡ 0
small_by i n l = let a : i / n < 1 = (div-lt_iff_lt-mul (let z : 0 < n = omega arith in z)).1 (let b : i < 1 * n = omega arith in b) in omega arith

lanes_if : (ls : List ℕ) → (is_no_lane ls || are_lane_by_lane (count_zeros ls) 0 ls) ≡ true → are_lane_by_lane (count_zeros ls) 0 ls ≡ true ⊎ (length ls ≡ 0)
lanes_if [] h = inr refl
lanes_if (l ∷ ls) h = inl h

some_size : (ls : List ℕ) → are_lane_by_lane (count_zeros ls) 0 ls ≡ true → 0 < length ls → 0 < count_zeros ls
some_size [] h l = absurd (omega (arith, l))
some_size (x ∷ ls) h l = some_zero x ls (eqb-true _ _ (and_parts (x == 0 / count_zeros (x ∷ ls)) (are_lane_by_lane (count_zeros (x ∷ ls)) 1 ls) h).0 ∙ zero_by (count_zeros (x ∷ ls)))

-- a single stage is a stage of its lane
pub single_stage : (runs : List StageRun) (p : ℕ) → is_of_all (run_at runs p) ≡ false → stage_of runs p ≡ p - (run_at runs p).first * lane_size runs
single_stage runs p e = ap (λ b. cond b (lane_size runs) (p - (run_at runs p).first * lane_size runs)) e

pub all_stage : (runs : List StageRun) (p : ℕ) → is_of_all (run_at runs p) ≡ true → stage_of runs p ≡ lane_size runs
all_stage runs p e = ap (λ b. cond b (lane_size runs) (p - (run_at runs p).first * lane_size runs)) e

remainder : (p n d : ℕ) → 0 < n → d ≡ p / n → p - d * n < n
remainder p n d z e =
    let a : p / n * n + p % n ≡ p = div-add-mod' p n in
    let b : p % n < n = mod-lt p z in
    let c : d * n ≡ p / n * n = ap (λ x. x * n) e in
    omega arith

module _ (counters : List PlainCounter) (n : ℕ) (stages : PlainStages) (right : are_lanes_right (lanes_of counters) stages ≡ true) where
  abbrev all : List StageRun
  all = runs_of n stages

  abbrev singles : List ℕ
  singles = single_lanes stages

  of_all : is_of_all_lanes (lanes_of counters) (after_singles stages) ≡ true
  of_all = (and_parts _ _ (and_parts _ _ right).1).1

  by_lane : are_lane_by_lane (count_zeros singles) 0 singles ≡ true ⊎ (length singles ≡ 0)
  by_lane = lanes_if singles (and_parts _ _ (and_parts _ _ right).1).0

  size_is : lane_size all ≡ count_zeros singles
  size_is = size_here (lanes_of counters) n stages of_all

  -- a stage of one lane stands among the first ones
  is_single : (p : ℕ) → p < length all → is_of_all (run_at all p) ≡ false → p < length singles
  is_single p l e = elim (cases_lt p (length singles)) [
    | inl q ↦ q
    | inr q ↦ absurd (true≢false (sym (after_here (lanes_of counters) n stages of_all p l q).2 ∙ e))
  ]

  pub stand_in_lanes : Lanes all
  stand_in_lanes = record {
    lane_0 = λ i l.
        let q : i < count_zeros singles = subst (λ m. i < m) size_is l in
        let few : count_zeros singles ≤ length singles = few_zeros singles in
        let h = single_here n stages i (omega arith) in
        (h.0, h.1, h.2 ∙ zero_lane i q (omega arith));
    in_lane = λ p l e.
        let q : p < length singles = is_single p l e in
        subst (λ m. stage_of all p < m) (sym size_is)
        (subst (λ m. m < count_zeros singles) (sym (single_stage all p e ∙ ap (λ m. p - (run_at all p).first * m) size_is)) (lane_stage p q (single_here n stages p q).2));
    only = λ p q l r. elim (cases_lt p (length singles)) [
      | inl x ↦ (single_here n stages p x).1
      | inr x ↦ let a : suc p ≡ length all = (after_here (lanes_of counters) n stages of_all p (omega arith) x).1 in absurd (omega arith)
    ];
  }
    where
      zero_lane : (i : ℕ) → i < count_zeros singles → i < length singles → slice_index singles i ≡ 0
      zero_lane i q l = elim by_lane [
        | inl h ↦ lane_here (count_zeros singles) 0 singles h i l ∙ small_by (0 + i) (count_zeros singles) (omega arith)
        | inr e ↦ absurd (omega (arith, l, e))
      ]

      lane_stage : (p : ℕ) → p < length singles → (run_at all p).first ≡ slice_index singles p → p - (run_at all p).first * count_zeros singles < count_zeros singles
      lane_stage p q e = elim by_lane [
        | inl h ↦ remainder p (count_zeros singles) (run_at all p).first (some_size singles h (omega arith)) (e ∙ lane_here (count_zeros singles) 0 singles h p q ∙ ap (λ x. x / count_zeros singles) (let z : 0 + p ≡ p = omega arith in z))
        | inr z ↦ absurd (omega (arith, q, z))
      ]

  -- a body that is done once has one lane
  pub one_lane : lanes_of counters ≡ 1 → (p : ℕ) → p < length all → (is_of_all (run_at all p) ≡ false) × ((run_at all p).first ≡ 0)
  one_lane e p l = elim (cases_lt p (length singles)) [
    | inl q ↦ (
        let h = single_here n stages p q in
        let below : nat_lt (slice_index singles p) (lanes_of counters) ≡ true = each_lane singles p (and_parts _ _ (and_parts _ _ right).0).1 q in
        let under : slice_index singles p < lanes_of counters = ltb-true _ _ below in
        (h.1, h.2 ∙ let z : slice_index singles p ≡ 0 = omega arith in z)
        )
    | inr q ↦ let a : 2 ≤ lanes_of counters = (after_here (lanes_of counters) n stages of_all p l q).3 in absurd (omega arith)
  ]
    where
      each_lane : (ls : List ℕ) (p : ℕ) → list_all (λ x. nat_lt x (lanes_of counters)) ls ≡ true → p < length ls → nat_lt (slice_index ls p) (lanes_of counters) ≡ true
      each_lane [] p h q = absurd (omega (arith, q))
      each_lane (x ∷ ls) zero h q = (and_parts _ _ h).0
      each_lane (x ∷ ls) (suc p) h q = each_lane ls p (and_parts (nat_lt x (lanes_of counters)) _ h).1 (omega arith)
