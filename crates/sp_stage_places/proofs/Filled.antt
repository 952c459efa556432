-- No slot of a valid plan is without a stage: from one stage to the next a slot grows by one at most.
use Rattle.std.proofs.Common.{◌≡◌, ℕ, zero, suc, ◌+◌, ◌-◌, ◌*◌, ◌<◌, ◌≤◌, ◌⊎◌, inl, inr, Bool, true, false, cond, List, [], ◌∷◌, ◌++◌, length, refl, sym, subst, ap, ◌∙◌, arith}
use Rattle.std.proofs.lemmas.Bool.{and_parts, eq-eqb, eqb-true, false≢true}
use Rattle.std.specs.Prelude.{◌==◌, ◌||◌, slice_index, max}
use Rattle.sp_words.specs.declared.kind.Style.{Style}
use Rattle.sp_core.specs.declared.access.Meet.{Meet}
use Rattle.sp_core.specs.Around.{Around, nothing, lanes_of, within}
use Rattle.sp_core.specs.Declarations.{is_stream}
use Rattle.sp_core.specs.Forms.{PlainForms}
use Rattle.sp_core.specs.Invariant.{IsRight, AreRight, owned_in}
use Rattle.sp_core.specs.NodeRules.{with_state, is_node_right, are_counters_right, are_lanes_right, are_stages}
use Rattle.sp_core.specs.Numbering.{counters_size, node_count, number_count}
use Rattle.sp_core.specs.PlainCore.{PlainCounter, PlainNode, PlainStages, inner, outer, fsm, branch, load, store, sparse, no_stage, more_stage, PlainCore}
use Rattle.sp_plan.specs.PlainPlan.{PlainPlan, node_plan}
use Rattle.sp_plan.specs.Slots.{StageRun, runs_of, is_of_all, run_at, lane_size, stage_of, is_next, is_slot_right, is_slot_right_in, are_slots_right}
use Rattle.sp_plan.specs.Validity.{stage_count, are_divided_right, are_runs_right, kind_rule, slot_rule}
use Rattle.sp_time.specs.Beats.{slot_at}
use Rattle.sp_time.specs.Lists.{greatest}
use Rattle.sp_machine.specs.Timeline.{slots_from, slots_of}
use Rattle.sp_machine.proofs.Beats.{slots_length, slot_of_stage}
use Rattle.sp_overlap.specs.Whole.{IsTimed, AreTimed}
use Rattle.sp_overlap.proofs.Lanes.{Lanes, all_below, single_stage, all_stage, stand_in_lanes}
use Rattle.sp_overlap.proofs.Planned.{Holds, AllHold, outer_holds, fsm_holds, branch_holds, stage_holds, OuterPlan, outer_plan_of}
use Rattle.sp_overlap.proofs.Slots.{slots_rise}
use Rattle.sp_part_runs.specs.SequencesPlaces.{last_slot}
use Rattle.sp_stage_places.specs.Planned.{HavePlaces, AllHavePlaces, StagesHavePlaces, PlansHavePlaces}
use Rattle.sp_stage_places.proofs.Arranging.{stages_are_arranged}

-- which of two numbers is less
less_or_same : (k n : ℕ) → k ≤ n → (k < n) ⊎ (k ≡ n)
less_or_same k n l = grind arith

module _ (runs : List StageRun) (slots chains : List ℕ) (lanes : Lanes runs) (right : (p : ℕ) → p < length runs → is_slot_right runs slots chains p ≡ true) where
  abbrev at : ℕ → ℕ
  at p = slice_index slots p

  -- some stage has this slot
  abbrev pub HasStage : (slot : ℕ) → Type 0
  HasStage k = (q : ℕ) × (q < length runs) × (at q ≡ k)

  zero_slot : (p : ℕ) → p < length runs → stage_of runs p ≡ 0 → at p ≡ 0
  zero_slot p l e =
      eqb-true _ _ (ap (λ b. cond b (at p == 0) (cond (is_of_all (run_at runs p) || ((run_at runs p).first == 0)) (is_next runs slots chains (stage_of runs p - 1) p) (at p == at (stage_of runs p)))) (sym (eq-eqb (stage_of runs p) 0 e)) ∙ right p l)

  first_stage : (i : ℕ) → i < lane_size runs → stage_of runs i ≡ i
  first_stage i l =
      let h = lanes.lane_0 i l in
      single_stage runs i h.1 ∙ ap (λ f. i - f * lane_size runs) h.2 ∙ let e : i - 0 * lane_size runs ≡ i = omega arith in e

  stage_most : (p : ℕ) → p < length runs → stage_of runs p ≤ lane_size runs
  stage_most p l = by (is_of_all (run_at runs p)) refl
    where
      by : (b : Bool) → is_of_all (run_at runs p) ≡ b → stage_of runs p ≤ lane_size runs
      by true e = let a : stage_of runs p ≡ lane_size runs = all_stage runs p e in omega (arith, a)
      by false e = let a : stage_of runs p < lane_size runs = lanes.in_lane p l e in omega (arith, a)

  -- each slot up to that of a stage, by stages before it
  found : (n p k : ℕ) → p < length runs → stage_of runs p ≤ n → k ≤ at p → HasStage k
  found zero p k l s m = let z : at p ≡ 0 = zero_slot p l (omega (arith, s)) in (p, l, omega (arith, z, m))
  found (suc n) p k l s m = by (stage_of runs p) refl (λ q k. found n q k)
    where
      by : (t : ℕ) → stage_of runs p ≡ t → ((q k : ℕ) → q < length runs → stage_of runs q ≤ n → k ≤ at q → HasStage k) → HasStage k
      by zero e rest = let z : at p ≡ 0 = zero_slot p l e in (p, l, omega (arith, z, m))
      by (suc t) e rest = place (less_or_same k (at p) m)
        where
          place : (k < at p) ⊎ (k ≡ at p) → HasStage k
          place (inr same) = (p, l, sym same)
          place (inl less) =
              let most : stage_of runs p ≤ lane_size runs = stage_most p l in
              let inside : t < lane_size runs = omega (arith, most, e) in
              let there : t < length runs = (lanes.lane_0 t inside).0 in
              let is : stage_of runs t ≡ t = first_stage t inside in
              let rise : at p ≤ at t + (stage_of runs p - stage_of runs t) = (slots_rise runs slots chains lanes right t p there l (λ same. let f : stage_of runs t ≡ stage_of runs p = ap (stage_of runs) same in absurd (omega (arith, f, e, is))) (omega (arith, is, e))).1 in
              rest t k there (omega (arith, is, e, s)) (omega (arith, rise, less, is, e))

  pub no_gap : (p k : ℕ) → p < length runs → k ≤ at p → HasStage k
  no_gap p k l m = found (stage_of runs p) p k l (omega arith) m

-- the greatest is one of them
greatest_there : (f : ℕ → ℕ) (n : ℕ) → (i : ℕ) × (i < suc n) × (f i ≡ greatest f (suc n))
greatest_there f zero = (0, omega arith, let e : f 0 ≡ max 0 (f 0) = omega arith in e)
greatest_there f (suc n) = by (greatest_there f n) (less_or_more (greatest f (suc n)) (f (suc n)))
  where
    less_or_more : (a b : ℕ) → (a ≤ b) ⊎ (b ≤ a)
    less_or_more a b = grind arith

    by : (i : ℕ) × (i < suc n) × (f i ≡ greatest f (suc n)) → (greatest f (suc n) ≤ f (suc n)) ⊎ (f (suc n) ≤ greatest f (suc n)) → (i : ℕ) × (i < suc (suc n)) × (f i ≡ greatest f (suc (suc n)))
    by x (inl m) = (suc n, omega arith, let e : f (suc n) ≡ max (greatest f (suc n)) (f (suc n)) = omega (arith, m) in e)
    by (i, l, h) (inr m) = (i, omega (arith, l), let e : greatest f (suc n) ≡ max (greatest f (suc n)) (f (suc n)) = omega (arith, m) in h ∙ e)

runs_length : (n : ℕ) (stages : PlainStages) → length (runs_of n stages) ≡ stage_count stages
runs_length n no_stage = refl
runs_length n (more_stage first last comb node rest) = let e : length (runs_of (n + number_count node) rest) ≡ stage_count rest = runs_length (n + number_count node) rest in omega (arith, e)

some_stage : (stages : PlainStages) → are_stages stages ≡ true → (n : ℕ) × (stage_count stages ≡ suc n)
some_stage no_stage h = absurd (false≢true h)
some_stage (more_stage first last comb node rest) h = (stage_count rest, omega arith)

-- of one body
body_has_places : (counters : List PlainCounter) (n : ℕ) (style : Style) (stages : PlainStages) (slots chains : List ℕ) → are_lanes_right (lanes_of counters) stages ≡ true → length slots ≡ stage_count stages → length chains ≡ stage_count stages
    → are_slots_right (runs_of n stages) slots chains counters style ≡ true → HavePlaces (slots_from slots chains) (stage_count stages)
body_has_places counters n style stages slots chains lanes many_slots many_chains right = record { size = size; places = stages_are_arranged (slots_from slots chains) filled }
  where
    runs : List StageRun
    runs = runs_of n stages

    same : length slots ≡ length chains
    same = many_slots ∙ sym many_chains

    size : length (slots_from slots chains) ≡ stage_count stages
    size = slots_length slots chains same ∙ many_slots

    count : length (runs_of n stages) ≡ stage_count stages
    count = runs_length n stages

    each : (p : ℕ) → p < length (runs_of n stages) → is_slot_right (runs_of n stages) slots chains p ≡ true
    each p l = (and_parts (is_slot_right (runs_of n stages) slots chains p) _ (all_below (is_slot_right_in (runs_of n stages) slots chains counters style) (length (runs_of n stages)) p right l)).0

    slot_is : (s : ℕ) → s < length slots → (slot_at (slots_from slots chains) s).slot ≡ slice_index slots s
    slot_is s l = slot_of_stage slots chains s same l

    filled : (k : ℕ) → k ≤ last_slot (slots_from slots chains) → (s : ℕ) × (s < length (slots_from slots chains)) × ((slot_at (slots_from slots chains) s).slot ≡ k)
    filled k m = by (some_stage stages (and_parts (are_stages stages) _ (and_parts _ _ lanes).0).0)
      where
        by : (n : ℕ) × (stage_count stages ≡ suc n) → (s : ℕ) × (s < length (slots_from slots chains)) × ((slot_at (slots_from slots chains) s).slot ≡ k)
        by (m1, some) =
            let top = greatest_there (λ s. (slot_at (slots_from slots chains) s).slot) m1 in
            let is : length (slots_from slots chains) ≡ suc m1 = size ∙ some in
            let below : top.0 < suc m1 = top.1 in
            let high : (slot_at (slots_from slots chains) top.0).slot ≡ last_slot (slots_from slots chains) = top.2 ∙ ap (greatest (λ s. (slot_at (slots_from slots chains) s).slot)) (sym is) in
            let here : (slot_at (slots_from slots chains) top.0).slot ≡ slice_index slots top.0 = slot_is top.0 (omega (arith, below, some, many_slots)) in
            let h = no_gap (runs_of n stages) slots chains (stand_in_lanes counters n stages lanes) each top.0 k (omega (arith, below, some, count)) (omega (arith, m, high, here)) in
            let l = h.1 in
            (h.0, omega (arith, l, count, size), slot_is h.0 (omega (arith, l, count, many_slots)) ∙ h.2)

module _ (core : PlainCore) (forms : PlainForms) (meets : List Meet) (plan : PlainPlan) where
  lanes_right : (around : Around) (earlier : List ℕ) (counters : List PlainCounter) (style : Style) (owned : List ℕ) (stages : PlainStages) → IsRight core around earlier (outer counters style owned stages) → are_lanes_right (lanes_of counters) stages ≡ true
  lanes_right around earlier counters style owned stages h =
      (and_parts (are_counters_right core around counters) _ (and_parts (is_node_right core around (outer counters style owned stages)) _ h.0).0).1

  outer_has : (k n : ℕ) (counters : List PlainCounter) (style : Style) (owned : List ℕ) (stages : PlainStages) → is_stream style ≡ false → are_lanes_right (lanes_of counters) stages ≡ true → OuterPlan (node_plan plan k) (stage_count stages)
      → are_runs_right core forms meets plan n (outer counters style owned stages) (node_plan plan k) ≡ true → HavePlaces (slots_of (node_plan plan k)) (stage_count stages)
  outer_has k n counters style owned stages no_stream lanes p right =
      subst (λ q. HavePlaces (slots_of q) (stage_count stages)) (sym p.is)
      (body_has_places counters (n + counters_size counters) style stages p.slots p.chains lanes p.many_slots p.many_chains
      (and_parts _ _ (ap (λ b. b || are_divided_right core meets (runs_of (n + counters_size counters) stages) counters style owned p.slots p.chains) (sym no_stream)
      ∙ ap (λ q. are_runs_right core forms meets plan n (outer counters style owned stages) q) (sym p.is) ∙ right)).0)

  mutual
    node_has : (node : PlainNode) (k n : ℕ) (around : Around) (earlier : List ℕ) → IsRight core around earlier node → IsTimed node → Holds (kind_rule core forms meets plan) k n node → Holds (slot_rule core forms meets plan) k n node → AllHavePlaces plan node k
    node_has (inner counters owned ops comb) k n around earlier right timed kinds slots = tt
    node_has (outer counters style owned stages) k n around earlier right timed kinds slots =
        let a = outer_holds (kind_rule core forms meets plan) k n counters style owned stages timed.0 kinds in
        let b = outer_holds (slot_rule core forms meets plan) k n counters style owned stages timed.0 slots in (
          outer_has k n counters style owned stages timed.0 (lanes_right around earlier counters style owned stages right) (outer_plan_of (node_plan plan k) counters style owned stages timed.0 a.0) b.0,
          stages_have stages (suc k) (n + counters_size counters) (within around counters owned) (earlier ++ owned) right.1 timed.1 a.1 b.1,
        )
    node_has (fsm start state test body next) k n around earlier right timed kinds slots =
        node_has body (suc k) (n + (length start + length test)) (with_state core around state) (earlier ++ state ∷ []) right.1 timed
        (fsm_holds (kind_rule core forms meets plan) k n start state test body next kinds) (fsm_holds (slot_rule core forms meets plan) k n start state test body next slots)
    node_has (branch test first second) k n around earlier right timed kinds slots =
        let a = branch_holds (kind_rule core forms meets plan) k n test first second kinds in
        let b = branch_holds (slot_rule core forms meets plan) k n test first second slots in (
          node_has first (suc k) (n + length test) around earlier right.1 timed.0 a.0 b.0,
          node_has second (suc k + node_count first) ((n + length test) + number_count first) around (earlier ++ owned_in first) right.2 timed.1 a.1 b.1,
        )
    node_has (load r m spans) k n around earlier right timed kinds slots = tt
    node_has (store r m spans) k n around earlier right timed kinds slots = tt
    node_has (sparse kind r m places spans count par) k n around earlier right timed kinds slots = tt

    stages_have : (stages : PlainStages) (k n : ℕ) (around : Around) (earlier : List ℕ) → AreRight core around earlier stages → AreTimed stages → AllHold (kind_rule core forms meets plan) k n stages → AllHold (slot_rule core forms meets plan) k n stages → StagesHavePlaces plan stages k
    stages_have no_stage k n around earlier right timed kinds slots = tt
    stages_have (more_stage first last comb node rest) k n around earlier right timed kinds slots =
        let a = stage_holds (kind_rule core forms meets plan) k n first last comb node rest kinds in
        let b = stage_holds (slot_rule core forms meets plan) k n first last comb node rest slots in
        (node_has node k n around earlier right.0 timed.0 a.0 b.0, stages_have rest (k + node_count node) (n + number_count node) around (earlier ++ owned_in node) right.1 timed.1 a.1 b.1)

pub plans_have_places : PlansHavePlaces
plans_have_places core forms meets plan is timed valid = node_has core forms meets plan core.root 0 0 nothing [] is.nodes timed valid.kinds valid.slots
