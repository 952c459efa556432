-- Where the stages of an outer body stand as the rules of cores ask, they stand in their lanes.
use Rattle.std.proofs.Common.{◌≡◌, ℕ, zero, suc, ◌+◌, ◌*◌, ◌/◌, ◌<◌, ◌≤◌, ◌==◌, ◌&&◌, ◌||◌, not, nat_lt, Bool, true, false, cond, List, [], ◌∷◌, length, filter, get_or, refl, ap, sym, subst, ◌∙◌, ⊎_elim, eq-eqb, eqb-true, le-leb, lt-ltb, arith}
use Rattle.std.specs.List.{list_all}
use Rattle.std.proofs.Math.Nat.{div-mul-le_self, lt-div-mul-add}
use Rattle.sp_core.specs.NodeRules.{single_lanes, after_singles, count_zeros, are_lane_by_lane, is_of_all_lanes, are_stages, is_no_lane, are_lanes_right}
use Rattle.sp_core.specs.Numbering.{number_count}
use Rattle.sp_core.specs.PlainCore.{PlainNode, PlainStages, no_stage, more_stage}
use Rattle.sp_plan.specs.Slots.{StageRun, runs_of, run_at, is_of_all, is_in_lane_0, lane_size}
use Rattle.sp_stages.specs.Finest.{is_in_place, are_in_place}
use Rattle.sp_stages.proofs.Below.{and_parts, and_both, or_cases, all_from, if_both}

not_true : (b : Bool) → not b ≡ true → b ≡ false
not_true true h = sym h
not_true false h = refl

not_false : (b : Bool) → not b ≡ false → b ≡ true
not_false true h = refl
not_false false h = sym h

abbrev AreEnded : (lanes : ℕ) → PlainStages → Type 0
AreEnded lanes stages = is_of_all_lanes lanes (after_singles stages) ≡ true

-- after a stage of one lane come the others; after one of several none
goes_on : (lanes first last : ℕ) (comb : Bool) (node : PlainNode) (rest : PlainStages) → (first == last) ≡ true → AreEnded lanes (more_stage first last comb node rest) → AreEnded lanes rest
goes_on lanes first last comb node rest e h =
    subst (λ b. is_of_all_lanes lanes (elim b [ true ↦ after_singles rest | false ↦ more_stage first last comb node rest ]) ≡ true) e h

none_after : (lanes first last : ℕ) (comb : Bool) (node : PlainNode) (rest : PlainStages) → is_of_all_lanes lanes (more_stage first last comb node rest) ≡ true → rest ≡ no_stage
none_after lanes first last comb node no_stage h = refl
none_after lanes first last comb node (more_stage f l c m rest) h = absurd (cc)

ends : (lanes first last : ℕ) (comb : Bool) (node : PlainNode) (rest : PlainStages) → (first == last) ≡ false → AreEnded lanes (more_stage first last comb node rest) → rest ≡ no_stage
ends lanes first last comb node rest e h =
    none_after lanes first last comb node rest
    (subst (λ b. is_of_all_lanes lanes (elim b [ true ↦ after_singles rest | false ↦ more_stage first last comb node rest ]) ≡ true) e h)

no_runs : (n : ℕ) (rest : PlainStages) → rest ≡ no_stage → runs_of n rest ≡ []
no_runs n rest e = ap (runs_of n) e

singles_more : (first last : ℕ) (comb : Bool) (node : PlainNode) (rest : PlainStages) → (first == last) ≡ true → single_lanes (more_stage first last comb node rest) ≡ first ∷ single_lanes rest
singles_more first last comb node rest e = ap (λ b. elim b [ true ↦ first ∷ single_lanes rest | false ↦ [] ]) e

-- lane 0 has as many stages as are counted
lane_count : (lanes n : ℕ) (stages : PlainStages) → AreEnded lanes stages → lane_size (runs_of n stages) ≡ count_zeros (single_lanes stages)
lane_count lanes n no_stage h = refl
lane_count lanes n (more_stage first last comb node rest) h = count_from (λ g. lane_count lanes (n + number_count node) rest g) (first == last) refl where
  others : List StageRun
  others = runs_of (n + number_count node) rest

  here : StageRun
  here = record { from = n; until = n + number_count node; first = first; last = last }

  count_from : (AreEnded lanes rest → lane_size others ≡ count_zeros (single_lanes rest)) → (b : Bool) → (first == last) ≡ b → lane_size (here ∷ others) ≡ count_zeros (single_lanes (more_stage first last comb node rest))
  count_from more true e =
      let k = more (goes_on lanes first last comb node rest e h) in
      let one : suc (count_zeros (single_lanes rest)) ≡ 1 + count_zeros (single_lanes rest) = omega arith in
      ap (λ b. length (cond (not (not b) && (first == 0)) (here ∷ filter is_in_lane_0 others) (filter is_in_lane_0 others))) e
      ∙ elim (first == 0) as (λ b. length (cond b (here ∷ filter is_in_lane_0 others) (filter is_in_lane_0 others)) ≡ elim b [ true ↦ 1 + count_zeros (single_lanes rest) | false ↦ count_zeros (single_lanes rest) ]) [ true ↦ ap suc k ∙ one | false ↦ k ]
      ∙ sym (ap count_zeros (singles_more first last comb node rest e))
  count_from more false e =
      ap (λ b. length (cond (not (not b) && (first == 0)) (here ∷ filter is_in_lane_0 others) (filter is_in_lane_0 others))) e
      ∙ ap (λ xs. length (filter is_in_lane_0 xs)) (no_runs (n + number_count node) rest (ends lanes first last comb node rest e h))
      ∙ sym (ap (λ b. count_zeros (elim b [ true ↦ first ∷ single_lanes rest | false ↦ [] ])) e)

-- a run of several lanes stands last
last_at : (lanes n : ℕ) (stages : PlainStages) → AreEnded lanes stages → (p : ℕ) → p < length (runs_of n stages) → is_of_all (run_at (runs_of n stages) p) ≡ true → p + 1 ≡ length (runs_of n stages)
last_at lanes n no_stage h p lt e = absurd (omega arith)
last_at lanes n (more_stage first last comb node rest) h zero lt e =
    let none = ap length (no_runs (n + number_count node) rest (ends lanes first last comb node rest (not_true (first == last) e) h)) in
    omega arith
last_at lanes n (more_stage first last comb node rest) h (suc p) lt e = next (λ g. last_at lanes (n + number_count node) rest g p (omega arith) e) (first == last) refl where
  next : (AreEnded lanes rest → p + 1 ≡ length (runs_of (n + number_count node) rest)) → (b : Bool) → (first == last) ≡ b → suc p + 1 ≡ suc (length (runs_of (n + number_count node) rest))
  next more true is = let k = more (goes_on lanes first last comb node rest is h) in omega arith
  next more false is =
      let none = ap length (no_runs (n + number_count node) rest (ends lanes first last comb node rest is h)) in
      absurd (omega arith)

abbrev IsLaneAt : (singles : List ℕ) → (p first : ℕ) → Type 0
IsLaneAt singles p first = (p < length singles) × (get_or singles p 0 ≡ first)

-- one of one lane has its lane in the list of them
lane_at : (lanes n : ℕ) (stages : PlainStages) → AreEnded lanes stages → (p : ℕ) → p < length (runs_of n stages) → is_of_all (run_at (runs_of n stages) p) ≡ false → IsLaneAt (single_lanes stages) p (run_at (runs_of n stages) p).first
lane_at lanes n no_stage h p lt e = absurd (omega arith)
lane_at lanes n (more_stage first last comb node rest) h zero lt e =
    subst (λ xs. IsLaneAt xs 0 first) (sym (singles_more first last comb node rest (not_false (first == last) e))) (omega arith, refl)
lane_at lanes n (more_stage first last comb node rest) h (suc p) lt e = next (λ g. lane_at lanes (n + number_count node) rest g p (omega arith) e) (first == last) refl where
  next : (AreEnded lanes rest → IsLaneAt (single_lanes rest) p (run_at (runs_of (n + number_count node) rest) p).first) → (b : Bool) → (first == last) ≡ b → IsLaneAt (single_lanes (more_stage first last comb node rest)) (suc p) (run_at (runs_of (n + number_count node) rest) p).first
  next more true is =
      let k = more (goes_on lanes first last comb node rest is h) in
      subst (λ xs. IsLaneAt xs (suc p) (run_at (runs_of (n + number_count node) rest) p).first) (sym (singles_more first last comb node rest is))
      (let lt = k.0 in omega arith, k.1)
  next more false is =
      let none = ap length (no_runs (n + number_count node) rest (ends lanes first last comb node rest is h)) in
      absurd (omega arith)

-- lanes that follow one another
by_lane : (n i : ℕ) (singles : List ℕ) → are_lane_by_lane n i singles ≡ true → (p : ℕ) → p < length singles → get_or singles p 0 ≡ (p + i) / n
by_lane n i [] h p lt = absurd (omega arith)
by_lane n i (l ∷ rest) h zero lt =
    let here : i ≡ zero + i = omega arith in
    eqb-true l (i / n) (and_parts (l == i / n) (are_lane_by_lane n (i + 1) rest) h).0 ∙ ap (λ x. x / n) here
by_lane n i (l ∷ rest) h (suc p) lt =
    let there : p + (i + 1) ≡ suc p + i = omega arith in
    by_lane n (i + 1) rest (and_parts (l == i / n) (are_lane_by_lane n (i + 1) rest) h).1 p (omega arith) ∙ ap (λ x. x / n) there

counted : (c l : ℕ) (rest : List ℕ) → c ≡ count_zeros (l ∷ rest) → are_lane_by_lane c 0 (l ∷ rest) ≡ true → 0 < c
counted zero l rest is h =
    let first : l ≡ 0 = eqb-true l 0 (and_parts (l == 0) (are_lane_by_lane 0 1 rest) h).0 in
    let some = is ∙ ap (λ b. elim b [ true ↦ 1 + count_zeros rest | false ↦ count_zeros rest ]) (eq-eqb l 0 first) in
    absurd (omega arith)
counted (suc c) l rest is h = omega arith

some_lane : (singles : List ℕ) (p : ℕ) → p < length singles → are_lane_by_lane (count_zeros singles) 0 singles ≡ true → 0 < count_zeros singles
some_lane [] p lt h = absurd (omega arith)
some_lane (l ∷ rest) p lt h = counted (count_zeros (l ∷ rest)) l rest refl h

no_lane : (singles : List ℕ) → is_no_lane singles ≡ true → length singles ≡ 0
no_lane [] h = refl
no_lane (l ∷ rest) h = absurd (cc)

-- the place of a run of one lane
bounds : (singles : List ℕ) (p size first : ℕ) → size ≡ count_zeros singles → are_lane_by_lane (count_zeros singles) 0 singles ≡ true → p < length singles → get_or singles p 0 ≡ first
    → (first * size ≤ p) × (p < first * size + size)
bounds singles p size first is h lt at =
    let from : p + 0 ≡ p = omega arith in
    let lane : p / count_zeros singles ≡ first = ap (λ x. x / count_zeros singles) (sym from) ∙ sym (by_lane (count_zeros singles) 0 singles h p lt) ∙ at in
    let some = some_lane singles p lt h in
    subst (λ n. (first * n ≤ p) × (p < first * n + n)) (sym is)
    (subst (λ f. (f * count_zeros singles ≤ p) × (p < f * count_zeros singles + count_zeros singles)) lane
    (div-mul-le_self p (count_zeros singles), lt-div-mul-add some))

pub lanes_in_place : (lanes n : ℕ) (stages : PlainStages) → are_lanes_right lanes stages ≡ true → are_in_place (runs_of n stages) ≡ true
lanes_in_place lanes n stages h = all_from (is_in_place runs) (length runs) at where
  runs : List StageRun
  runs = runs_of n stages

  singles : List ℕ
  singles = single_lanes stages

  ordered : ((is_no_lane singles || are_lane_by_lane (count_zeros singles) 0 singles) ≡ true) × AreEnded lanes stages
  ordered = and_parts _ _ (and_parts (are_stages stages && list_all (λ l. nat_lt l lanes) singles) _ h).1

  single_at : (p : ℕ) → p < length runs → is_of_all (run_at runs p) ≡ false → ((run_at runs p).first * lane_size runs ≤ p) × (p < (run_at runs p).first * lane_size runs + lane_size runs)
  single_at p lt e =
      let k = lane_at lanes n stages ordered.1 p lt e in
      ⊎_elim (λ none. let z = no_lane singles none in let l = k.0 in absurd (omega arith))
      (λ by. bounds singles p (lane_size runs) (run_at runs p).first (lane_count lanes n stages ordered.1) by k.0 k.1)
      (or_cases (is_no_lane singles) (are_lane_by_lane (count_zeros singles) 0 singles) ordered.0)

  at : (p : ℕ) → p < length runs → is_in_place runs p ≡ true
  at p lt = if_both (is_of_all (run_at runs p)) _ _
      (λ e. eq-eqb (p + 1) (length runs) (last_at lanes n stages ordered.1 p lt e))
      (λ e. let k = single_at p lt e in and_both _ _ (le-leb ((run_at runs p).first * lane_size runs) p k.0) (lt-ltb p ((run_at runs p).first * lane_size runs + lane_size runs) k.1))
