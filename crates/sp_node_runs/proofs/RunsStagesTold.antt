-- What happens in the runs of an outer body.
use Rattle.std.proofs.Common.{◌≡◌, ℕ, suc, ◌+◌, ℤ, List, [], ◌∷◌, ◌++◌, Some, flat_map, sum_by, refl, sym, ◌∙◌, ap, arith}
use Rattle.std.proofs.lemmas.Grind.{flat_map-append}
use Rattle.std.proofs.lemmas.List.Sums.{sum_by-append}
use Rattle.sp_words.specs.declared.kind.Style.{Style}
use Rattle.sp_core.specs.Events.{inside_at, before, in_group_of, bounds_moments}
use Rattle.sp_core.specs.History.{History, Groups, Runs, outer_ran, no_group, more_group, no_run, masked_run, more_run}
use Rattle.sp_core.specs.Numbering.{counters_size, node_count, number_count}
use Rattle.sp_core.specs.PlainCore.{PlainCounter, PlainNode, PlainStages, outer, no_stage, more_stage, PlainCore}
use Rattle.sp_core.specs.Scope.{in_lanes, loops_of, group_values}
use Rattle.sp_plan.specs.PlainPlan.{PlainPlan, node_plan}
use Rattle.sp_plan.specs.Validity.{stage_count}
use Rattle.sp_time.specs.Beats.{Slot, Run, took_at, starts}
use Rattle.sp_time.specs.Lists.{total}
use Rattle.sp_machine.specs.Stamps.{Stamped, stamped, later}
use Rattle.sp_machine.specs.Timeline.{slots_of, in_copies, timed, group_runs, stage_runs as row_runs, stage_events, fresh_events, group_events}
use Rattle.sp_machine.specs.Transfers.{Delays}
use Rattle.sp_node_runs.specs.Runs.{Placed, events_of, stage_at, node_at, number_at, stage_history, stage_of, groups_from, stage_in, stage_runs}
use Rattle.sp_node_runs.specs.RunsTold.{all_events, fresh_from, outer_alone}
use Rattle.sp_node_runs.proofs.RunsWeights.{later_later, later_both, total_same, total_first, total_none, total_sums, total_sum, flat_flat}

module _ (core : PlainCore) (plan : PlainPlan) (delays : Delays) (weigh : Stamped → ℕ) where
  abbrev w : List Stamped → ℕ
  w es = sum_by weigh es

  nothing_more : (es : List Stamped) → es ++ [] ≡ es
  nothing_more [] = refl
  nothing_more (e ∷ es) = ap (λ rest. e ∷ rest) (nothing_more es)

  first_and_rest : (f : ℕ → ℕ) (a n : ℕ) → f 0 ≡ a → total f (1 + n) ≡ a + total (λ s. f (suc s)) n
  first_and_rest f a n h = ap (λ m. total f m) {x = 1 + n} {y = suc n} (omega arith) ∙ total_first f n ∙ ap (λ b. b + total (λ s. f (suc s)) n) h

  rest_only : (f : ℕ → ℕ) (n : ℕ) → f 0 ≡ 0 → total f (1 + n) ≡ total (λ s. f (suc s)) n
  rest_only f n h = let a = first_and_rest f 0 n h in omega (arith, a)

  -- of a run whose stages stand in a table of runs
  module _ (counters : List PlainCounter) (owned : List ℕ) (k : ℕ) (slots : List Slot) (runs : List (List (Run Stamped))) (r : Placed) where
    -- what happens in a stage of a group
    abbrev in_stage : (stages whole : PlainStages) (n j i g : ℕ) (v : List ℤ) (hs : Runs) (s : ℕ) → List Stamped
    in_stage stages whole n j i g v hs s =
        flat_map (events_of core plan delays (stage_at stages s) (node_at stages j s) (number_at stages n s)) (stage_of core plan delays counters owned whole k n (i + s) r (starts slots (took_at runs) g (i + s)) g v (stage_history stages hs s))

    -- of a stage that stands one further
    moved_on : (rest whole : PlainStages) (n j i g : ℕ) (v : List ℤ) (hs : Runs) (s : ℕ) → in_stage rest whole n j (suc i) g v hs s
        ≡ flat_map (events_of core plan delays (stage_at rest s) (node_at rest j s) (number_at rest n s)) (stage_of core plan delays counters owned whole k n (i + suc s) r (starts slots (took_at runs) g (i + suc s)) g v (stage_history rest hs s))
    moved_on rest whole n j i g v hs s =
        ap (λ m. flat_map (events_of core plan delays (stage_at rest s) (node_at rest j s) (number_at rest n s)) (stage_of core plan delays counters owned whole k n m r (starts slots (took_at runs) g m) g v (stage_history rest hs s))) {x = suc i + s} {y = i + suc s} (omega arith)

    here : (whole : PlainStages) (n j i g : ℕ) (v : List ℤ) (node : PlainNode) (h : History)
        → flat_map (events_of core plan delays node j n) (stage_of core plan delays counters owned whole k n (i + 0) r (starts slots (took_at runs) g (i + 0)) g v (Some h))
        ≡ later (r.cycle + starts slots (took_at runs) g i) (timed core plan delays node j n (inside_at r.standing k (in_group_of g i) v) (in_copies core plan delays owned g r.copies) h).events ++ []
    here whole n j i g v node h =
        ap (λ m. flat_map (events_of core plan delays node j n) (stage_of core plan delays counters owned whole k n m r (starts slots (took_at runs) g m) g v (Some h))) {x = i + 0} {y = i} (omega arith)

    row_told : (stages whole : PlainStages) (n j i g : ℕ) (v : List ℤ) (hs : Runs)
        → w (later r.cycle (stage_events core plan delays slots runs g i (row_runs core plan delays stages k n i g j v r.standing (in_copies core plan delays owned g r.copies) hs)))
        ≡ total (λ s. w (in_stage stages whole n j i g v hs s)) (stage_count stages)
    unfolding row_runs
    row_told no_stage whole n j i g v hs = refl
    row_told (more_stage first last comb node rest) whole n j i g v no_run = sym (total_none (λ s. 0) (λ s. refl) (1 + stage_count rest))
    row_told (more_stage first last comb node rest) whole n j i g v (masked_run hs) =
        row_told rest whole (n + number_count node) (j + node_count node) (suc i) g v hs ∙ total_same _ _ (λ s. ap w (moved_on rest whole (n + number_count node) (j + node_count node) i g v hs s)) (stage_count rest)
        ∙ sym (rest_only (λ s. w (in_stage (more_stage first last comb node rest) whole n j i g v (masked_run hs) s)) (stage_count rest) refl)
    row_told (more_stage first last comb node rest) whole n j i g v (more_run h hs) =
        let es : List Stamped = (timed core plan delays node j n (inside_at r.standing k (in_group_of g i) v) (in_copies core plan delays owned g r.copies) h).events in
        let c : ℕ = starts slots (took_at runs) g i in
        let more : List Stamped = stage_events core plan delays slots runs g (suc i) (row_runs core plan delays rest k (n + number_count node) (suc i) g (j + node_count node) v r.standing (in_copies core plan delays owned g r.copies) hs) in
        let a = row_told rest whole (n + number_count node) (j + node_count node) (suc i) g v hs ∙ total_same _ _ (λ s. ap w (moved_on rest whole (n + number_count node) (j + node_count node) i g v hs s)) (stage_count rest) in
        let b = ap w (later_both r.cycle (later c es) more) ∙ sum_by-append weigh (later r.cycle (later c es)) (later r.cycle more) in
        let d = ap w (later_later r.cycle c es) in
        let e = first_and_rest (λ s. w (in_stage (more_stage first last comb node rest) whole n j i g v (more_run h hs) s)) (w (later (r.cycle + c) es)) (stage_count rest)
        (ap (λ (xs : List Stamped). w xs) (here whole n j i g v node h) ∙ ap w (nothing_more (later (r.cycle + c) es))) in
        by_parts b d a e
      where
        by_parts : {whole first es more rest all : ℕ} → whole ≡ first + more → first ≡ es → more ≡ rest → all ≡ es + rest → whole ≡ all
        by_parts p q s t = omega (arith, p, q, s, t)

    module _ (stages : PlainStages) (n : ℕ) where
      -- what happens in a stage of the groups from one on
      abbrev in_groups : (values : List (List ℤ)) (groups : Groups) (g s : ℕ) → List Stamped
      in_groups values groups g s =
          flat_map (events_of core plan delays (stage_at stages s) (node_at stages (suc k) s) (number_at stages (n + counters_size counters) s)) (groups_from core plan delays counters owned stages k n s r (λ g. starts slots (took_at runs) g s) g values groups)

      abbrev rows : (values : List (List ℤ)) (groups : Groups) (g : ℕ) → List (List (Run Stamped))
      rows values groups g = group_runs core plan delays stages k (n + counters_size counters) g r.standing owned r.copies values groups

      abbrev fresh : (group : ℕ) → List Stamped
      fresh g = fresh_events core plan delays slots runs (node_plan plan k) stages (in_copies core plan delays owned g r.copies) g owned

      abbrev alone : (group : ℕ) → List (List (Run Stamped)) → List Stamped
      alone g [] = []
      alone g (row ∷ more) = later r.cycle (fresh g) ++ alone (suc g) more

      no_groups : (g : ℕ) (values : List (List ℤ)) (groups : Groups) → ((s : ℕ) → w (in_groups values groups g s) ≡ 0) → 0 ≡ 0 + total (λ s. w (in_groups values groups g s)) (stage_count stages)
      no_groups g values groups h = let z = total_none (λ s. w (in_groups values groups g s)) h (stage_count stages) in omega (arith, z)

      groups_told : (values : List (List ℤ)) (groups : Groups) (g : ℕ)
          → w (later r.cycle (group_events core plan delays slots runs (node_plan plan k) stages r.copies owned g (rows values groups g)))
          ≡ w (alone g (rows values groups g)) + total (λ s. w (in_groups values groups g s)) (stage_count stages)
      unfolding group_runs
      groups_told [] groups g = no_groups g [] groups (λ s. refl)
      groups_told (v ∷ values) no_group g = no_groups g (v ∷ values) no_group (λ s. refl)
      groups_told (v ∷ values) (more_group hs rest) g =
          let row : List (Run Stamped) = row_runs core plan delays stages k (n + counters_size counters) 0 g (suc k) v r.standing (in_copies core plan delays owned g r.copies) hs in
          let own : List Stamped = stage_events core plan delays slots runs g 0 row in
          let more : List Stamped = group_events core plan delays slots runs (node_plan plan k) stages r.copies owned (suc g) (rows values rest (suc g)) in
          let a = ap w (later_both r.cycle (fresh g ++ own) more) ∙ sum_by-append weigh (later r.cycle (fresh g ++ own)) (later r.cycle more) in
          let b = ap w (later_both r.cycle (fresh g) own) ∙ sum_by-append weigh (later r.cycle (fresh g)) (later r.cycle own) in
          let c = row_told stages stages (n + counters_size counters) (suc k) 0 g v hs in
          let d = groups_told values rest (suc g) in
          let e = sum_by-append weigh (later r.cycle (fresh g)) (alone (suc g) (rows values rest (suc g))) in
          let f = total_same (λ s. w (in_groups (v ∷ values) (more_group hs rest) g s)) (λ s. w (in_stage stages stages (n + counters_size counters) (suc k) 0 g v hs s) + w (in_groups values rest (suc g) s)) (λ s. in_both v values hs rest g s) (stage_count stages)
          ∙ total_sums (λ s. w (in_stage stages stages (n + counters_size counters) (suc k) 0 g v hs s)) (λ s. w (in_groups values rest (suc g) s)) (stage_count stages) in
          omega (arith, a, b, c, d, e, f)
        where
          in_both : (v : List ℤ) (values : List (List ℤ)) (hs : Runs) (rest : Groups) (g s : ℕ)
              → w (in_groups (v ∷ values) (more_group hs rest) g s) ≡ w (in_stage stages stages (n + counters_size counters) (suc k) 0 g v hs s) + w (in_groups values rest (suc g) s)
          in_both v values hs rest g s =
              let f : Placed → List Stamped = events_of core plan delays (stage_at stages s) (node_at stages (suc k) s) (number_at stages (n + counters_size counters) s) in
              let one : ℕ → List Placed = λ m. stage_of core plan delays counters owned stages k n m r (starts slots (took_at runs) g m) g v (stage_history stages hs s) in
              let left : List Placed = groups_from core plan delays counters owned stages k n s r (λ g. starts slots (took_at runs) g s) (suc g) values rest in
              ap w (flat_map-append f (one s) left) ∙ sum_by-append weigh (flat_map f (one s)) (flat_map f left) ∙ ap (λ m. w (flat_map f (one m)) + w (flat_map f left)) {x = s} {y = 0 + s} (omega arith)

  module _ (k n : ℕ) (counters : List PlainCounter) (style : Style) (owned : List ℕ) (stages : PlainStages) (r : Placed) where
    abbrev of_stage : (h : History) (s : ℕ) → List Stamped
    of_stage h s = flat_map (events_of core plan delays (stage_at stages s) (node_at stages (suc k) s) (number_at stages (n + counters_size counters) s)) (stage_in core plan delays counters owned stages k n s r h)

    outer_told : (h : History) → w (later r.cycle (timed core plan delays (outer counters style owned stages) k n r.standing r.copies h).events)
        ≡ w (outer_alone core plan delays k n counters style owned stages r h) + total (λ s. w (of_stage h s)) (stage_count stages)
    unfolding timed
    outer_told (outer_ran bs counts groups) =
        let values : List (List ℤ) = group_values (loops_of in_lanes counters bs) in
        let runs : List (List (Run Stamped)) = group_runs core plan delays stages k (n + counters_size counters) 0 r.standing owned r.copies values groups in
        let taken : List Stamped = stamped r.copies 0 (bounds_moments n (inside_at r.standing k before []) counters bs) in
        let more : List Stamped = group_events core plan delays (slots_of (node_plan plan k)) runs (node_plan plan k) stages r.copies owned 0 runs in
        let a = ap w (later_both r.cycle taken more) ∙ sum_by-append weigh (later r.cycle taken) (later r.cycle more) in
        let b = groups_told counters owned k (slots_of (node_plan plan k)) runs r stages n values groups 0 in
        let c = sum_by-append weigh (later r.cycle taken) (fresh_from core plan delays k n counters style owned stages r runs 0 runs) in
        let d = ap w (same_alone runs runs 0) in
        omega (arith, a, b, c, d)
      where
        same_alone : (runs rest : List (List (Run Stamped))) (g : ℕ) → alone counters owned k (slots_of (node_plan plan k)) runs r stages n g rest ≡ fresh_from core plan delays k n counters style owned stages r runs g rest
        same_alone runs [] g = refl
        same_alone runs (row ∷ rest) g = ap (λ more. later r.cycle (fresh_events core plan delays (slots_of (node_plan plan k)) runs (node_plan plan k) stages (in_copies core plan delays owned g r.copies) g owned) ++ more) (same_alone runs rest (suc g))
    outer_told h = let z = total_none (λ s. w (of_stage h s)) (λ s. refl) (stage_count stages) in omega (arith, z)

  pub stages_are_told : (k n : ℕ) (counters : List PlainCounter) (style : Style) (owned : List ℕ) (stages : PlainStages) (runs : List Placed)
      → w (all_events core plan delays (outer counters style owned stages) k n runs)
      ≡ w (flat_map (λ r. outer_alone core plan delays k n counters style owned stages r r.history) runs)
      + total (λ s. w (all_events core plan delays (stage_at stages s) (node_at stages (suc k) s) (number_at stages (n + counters_size counters) s) (stage_runs core plan delays counters owned stages k n s runs))) (stage_count stages)
  stages_are_told k n counters style owned stages runs =
      let f : ℕ → Placed → List Stamped = λ s. events_of core plan delays (stage_at stages s) (node_at stages (suc k) s) (number_at stages (n + counters_size counters) s) in
      let a = total_sum weigh (events_of core plan delays (outer counters style owned stages) k n) (λ r. outer_alone core plan delays k n counters style owned stages r r.history) (λ s r. of_stage k n counters style owned stages r r.history s) (stage_count stages) (λ r. outer_told k n counters style owned stages r r.history) runs in
      let b = total_same (λ s. w (flat_map (f s) (stage_runs core plan delays counters owned stages k n s runs))) (λ s. w (flat_map (λ r. of_stage k n counters style owned stages r r.history s) runs)) (λ s. ap w (flat_flat (f s) (λ r. stage_in core plan delays counters owned stages k n s r r.history) runs)) (stage_count stages) in
      omega (arith, a, b)
