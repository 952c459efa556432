-- The stages of an outer body, within a run of the whole.
use Rattle.std.proofs.Common.{◌≡◌, ℕ, zero, suc, ◌+◌, ◌≤◌, ◌<◌, ℤ, List, [], ◌∷◌, ◌++◌, Option, Some, None, refl, ap, subst, arith, ◌∙◌, length, slice_index_or, inl}
use Rattle.sp_words.specs.declared.kind.Style.{Style}
use Rattle.sp_core.specs.Events.{Standing, inside_at, in_group_of}
use Rattle.sp_core.specs.History.{History, Groups, Runs, outer_ran, no_group, more_group, no_run, masked_run, more_run}
use Rattle.sp_core.specs.Numbering.{counters_size, node_count, number_count}
use Rattle.sp_core.specs.PlainCore.{PlainCounter, PlainStages, outer, no_stage, more_stage, PlainCore}
use Rattle.sp_core.specs.Scope.{in_lanes, loops_of, group_values}
use Rattle.sp_plan.specs.PlainPlan.{PlainPlan, node_plan}
use Rattle.sp_time.specs.Beats.{Slot, Run, no_time, run_at, took_at, starts, whole}
use Rattle.sp_time.proofs.Whole.{beats_in_order}
use Rattle.sp_machine.specs.Stamps.{Stamped, Copies}
use Rattle.sp_machine.specs.Timeline.{slots_of, in_copies, timed, group_runs, stage_runs as row_runs}
use Rattle.sp_machine.specs.Transfers.{Delays}
use Rattle.sp_node_runs.specs.RunsLaws.{StagesComeInTurn}
use Rattle.sp_node_runs.specs.Runs.{Placed, stage_at, node_at, number_at, stage_history, AreWithin, stage_of, groups_from, stage_in}
use Rattle.sp_node_runs.proofs.RunsTurns.{all_within}

module _ (core : PlainCore) (plan : PlainPlan) (delays : Delays) where
  -- in a group's row stands the run of each stage that has a lane
  pub in_row : (stages : PlainStages) (k n i g j : ℕ) (v : List ℤ) (st : Standing) (copies : Copies) (hs : Runs) (s : ℕ) (h : History) → stage_history stages hs s ≡ Some h
      → slice_index_or (row_runs core plan delays stages k n i g j v st copies hs) s no_time ≡ timed core plan delays (stage_at stages s) (node_at stages j s) (number_at stages n s) (inside_at st k (in_group_of g (i + s)) v) copies h
  unfolding row_runs
  in_row (more_stage first last comb node rest) k n i g j v st copies (more_run b hs) zero h e =
      subst (λ (x : History). timed core plan delays node j n (inside_at st k (in_group_of g i) v) copies b ≡ timed core plan delays node j n (inside_at st k (in_group_of g (i + 0)) v) copies x) (let z : Some b ≡ Some h = e in cc)
      (ap (λ m. timed core plan delays node j n (inside_at st k (in_group_of g m) v) copies b) {x = i} {y = i + 0} (omega arith))
  in_row (more_stage first last comb node rest) k n i g j v st copies (more_run b hs) (suc s) h e =
      in_row rest k (n + number_count node) (suc i) g (j + node_count node) v st copies hs s h e
      ∙ ap (λ m. timed core plan delays (stage_at rest s) (node_at rest (j + node_count node) s) (number_at rest (n + number_count node) s) (inside_at st k (in_group_of g m) v) copies h) {x = suc i + s} {y = i + suc s} (omega arith)
  in_row (more_stage first last comb node rest) k n i g j v st copies (masked_run hs) (suc s) h e =
      in_row rest k (n + number_count node) (suc i) g (j + node_count node) v st copies hs s h e
      ∙ ap (λ m. timed core plan delays (stage_at rest s) (node_at rest (j + node_count node) s) (number_at rest (n + number_count node) s) (inside_at st k (in_group_of g m) v) copies h) {x = suc i + s} {y = i + suc s} (omega arith)
  in_row (more_stage first last comb node rest) k n i g j v st copies (masked_run hs) zero h e = absurd (let z : None ≡ Some h = e in cc)
  in_row (more_stage first last comb node rest) k n i g j v st copies no_run s h e = absurd (let z : None ≡ Some h = e in cc)
  in_row no_stage k n i g j v st copies hs s h e = absurd (let z : None ≡ Some h = e in cc)

  -- the groups of a run, by when each begins
  module _ (counters : List PlainCounter) (owned : List ℕ) (stages : PlainStages) (k n s : ℕ) (r : Placed) (begins : (group : ℕ) → ℕ) (until : ℕ) where
    abbrev rows : (group : ℕ) → List (List ℤ) → Groups → List (List (Run Stamped))
    rows g values groups = group_runs core plan delays stages k (n + counters_size counters) g r.standing owned r.copies values groups

    -- each group's run of the stage is over before the next one begins, and all before the whole is
    abbrev GoOn : (group : ℕ) → List (List (Run Stamped)) → Type 0
    GoOn g [] = Unit {0}
    GoOn g (row ∷ more) = (begins g + (slice_index_or row s no_time).took ≤ begins (suc g)) × (r.cycle + (begins g + (slice_index_or row s no_time).took) ≤ until) × GoOn (suc g) more

    groups_within : (from g : ℕ) (values : List (List ℤ)) (groups : Groups) → GoOn g (rows g values groups) → from ≤ until → from ≤ r.cycle + begins g
        → AreWithin core plan delays (stage_at stages s) (node_at stages (suc k) s) (number_at stages (n + counters_size counters) s) from until (groups_from core plan delays counters owned stages k n s r begins g values groups)
    unfolding group_runs
    groups_within from g [] groups go le at = le
    groups_within from g (v ∷ values) no_group go le at = le
    groups_within from g (v ∷ values) (more_group hs rest) go le at = by_history (stage_history stages hs s) refl go.0 go.1 (λ x lx ax. groups_within x (suc g) values rest go.2 lx ax)
      where
        by_history : (o : Option History) → stage_history stages hs s ≡ o
            → begins g + (slice_index_or (row_runs core plan delays stages k (n + counters_size counters) 0 g (suc k) v r.standing (in_copies core plan delays owned g r.copies) hs) s no_time).took ≤ begins (suc g)
            → r.cycle + (begins g + (slice_index_or (row_runs core plan delays stages k (n + counters_size counters) 0 g (suc k) v r.standing (in_copies core plan delays owned g r.copies) hs) s no_time).took) ≤ until
            → ((from : ℕ) → from ≤ until → from ≤ r.cycle + begins (suc g) → AreWithin core plan delays (stage_at stages s) (node_at stages (suc k) s) (number_at stages (n + counters_size counters) s) from until (groups_from core plan delays counters owned stages k n s r begins (suc g) values rest))
            → AreWithin core plan delays (stage_at stages s) (node_at stages (suc k) s) (number_at stages (n + counters_size counters) s) from until
            (stage_of core plan delays counters owned stages k n s r (begins g) g v o ++ groups_from core plan delays counters owned stages k n s r begins (suc g) values rest)
        by_history None e a b rest_within = rest_within from le (omega (arith, at, a))
        by_history (Some h) e a b rest_within =
            let t = ap (λ (x : Run Stamped). x.took) (in_row stages k (n + counters_size counters) 0 g (suc k) v r.standing (in_copies core plan delays owned g r.copies) hs s h e)
            ∙ ap (λ m. (timed core plan delays (stage_at stages s) (node_at stages (suc k) s) (number_at stages (n + counters_size counters) s) (inside_at r.standing k (in_group_of g m) v) (in_copies core plan delays owned g r.copies) h).took) {x = 0 + s} {y = s} (omega arith) in
            (at, rest_within _ (omega (arith, t, b)) (omega (arith, t, a)))

  -- beats in which a stage's runs come one after the other
  module _ (slots : List Slot) (table : List (List (Run Stamped))) (s : ℕ) (lt : s < length slots) (cycle : ℕ) where
    abbrev Steps : (group : ℕ) → List (List (Run Stamped)) → Type 0
    Steps g [] = Unit {0}
    Steps g (row ∷ more) =
        (starts slots (took_at table) g s + (slice_index_or row s no_time).took ≤ starts slots (took_at table) (suc g) s)
        × (cycle + (starts slots (took_at table) g s + (slice_index_or row s no_time).took) ≤ cycle + whole slots (took_at table) (length table))
        × Steps (suc g) more

    steps : (g : ℕ) (rest : List (List (Run Stamped))) → ((i : ℕ) → run_at table (g + i) s ≡ run_at rest i s) → g + length rest ≡ length table → Steps g rest
    steps g [] same size = tt
    steps g (row ∷ more) same size =
        let t : took_at table g s ≡ (slice_index_or row s no_time).took = ap (λ j. took_at table j s) {x = g} {y = g + 0} (omega arith) ∙ ap (λ (x : Run Stamped). x.took) (same 0) in
        let a : starts slots (took_at table) g s + took_at table g s ≤ starts slots (took_at table) (suc g) s = (beats_in_order slots (took_at table)).after_run g s (suc g) s lt (inl (omega arith)) in
        let b : starts slots (took_at table) g s + took_at table g s < whole slots (took_at table) (length table) = (beats_in_order slots (took_at table)).within (length table) g s (omega (arith, size)) lt in
        (omega (arith, t, a), omega (arith, t, b), steps (suc g) more (λ i. ap (λ j. run_at table j s) {x = suc g + i} {y = g + suc i} (omega arith) ∙ same (suc i)) (omega (arith, size)))

  module _ (counters : List PlainCounter) (style : Style) (owned : List ℕ) (stages : PlainStages) (k n s : ℕ) (lt : s < length (slots_of (node_plan plan k))) (r : Placed) where
    stage_within : (h : History) → AreWithin core plan delays (stage_at stages s) (node_at stages (suc k) s) (number_at stages (n + counters_size counters) s) r.cycle
        (r.cycle + (timed core plan delays (outer counters style owned stages) k n r.standing r.copies h).took) (stage_in core plan delays counters owned stages k n s r h)
    unfolding timed
    stage_within (outer_ran bs counts groups) =
        let values : List (List ℤ) = group_values (loops_of in_lanes counters bs) in
        let table : List (List (Run Stamped)) = group_runs core plan delays stages k (n + counters_size counters) 0 r.standing owned r.copies values groups in
        groups_within counters owned stages k n s r (λ g. starts (slots_of (node_plan plan k)) (took_at table) g s) (r.cycle + whole (slots_of (node_plan plan k)) (took_at table) (length table)) r.cycle 0 values groups
        (steps (slots_of (node_plan plan k)) table s lt r.cycle 0 table (λ i. ap (λ j. run_at table j s) {x = 0 + i} {y = i} (omega arith)) (omega arith)) (omega arith) (omega arith)
    stage_within h = omega arith

  pub stages_come_in_turn : StagesComeInTurn core plan delays
  stages_come_in_turn k n counters style owned stages s lt from until runs h =
      all_within core plan delays (outer counters style owned stages) (stage_at stages s) k n (node_at stages (suc k) s) (number_at stages (n + counters_size counters) s)
      (λ r. stage_in core plan delays counters owned stages k n s r r.history) (λ r. stage_within counters style owned stages k n s lt r r.history) from until runs h
