-- What happens in the runs of a node, as statements: what the node does by itself, and what happens in the runs of its parts.
use Rattle.std.specs.Prelude.{◌≡◌, ℕ, suc, ◌+◌, true, false, List, [], ◌∷◌, ◌++◌, flat_map, length, sum_by}
use Rattle.sp_words.specs.declared.kind.Style.{Style}
use Rattle.sp_core.specs.Events.{inside_at, before, in_turn, bounds_moments}
use Rattle.sp_core.specs.History.{Entry, History, Turns, last_word, outer_ran, fsm_ran, branch_ran, no_turn, more_turn}
use Rattle.sp_core.specs.Numbering.{counters_size, node_count, number_count}
use Rattle.sp_core.specs.PlainCore.{PlainOp, PlainCounter, PlainNode, PlainStages, outer, fsm, branch, PlainCore}
use Rattle.sp_core.specs.Scope.{in_lanes, loops_of, group_values}
use Rattle.sp_plan.specs.PlainPlan.{PlainPlan, node_plan}
use Rattle.sp_plan.specs.Validity.{stage_count}
use Rattle.sp_time.specs.Beats.{Run}
use Rattle.sp_time.specs.Lists.{total}
use Rattle.sp_machine.specs.Stamps.{Stamped, stamped, later, list_run, kept_run}
use Rattle.sp_machine.specs.Timeline.{slots_of, in_copies, timed, fresh_events}
use Rattle.sp_machine.specs.Transfers.{Delays}
use Rattle.sp_node_runs.specs.Runs.{Placed, events_of, over_at, list_took, side_runs, turn_of, body_runs, table, stage_at, node_at, number_at, stage_runs}

module _ (core : PlainCore) (plan : PlainPlan) (delays : Delays) where
  abbrev pub all_events : PlainNode → (node n : ℕ) → List Placed → List Stamped
  all_events node k n runs = flat_map (events_of core plan delays node k n) runs

  -- by itself a branch does its test
  module _ (k n : ℕ) (test : List PlainOp) (first second : PlainNode) where
    abbrev pub branch_alone : Placed → History → List Stamped
    branch_alone r (branch_ran es side h) = later (r.cycle + 1) (list_run core r.copies n (inside_at r.standing k (in_turn 0) []) test es).events
    branch_alone r h = later r.cycle (timed core plan delays (branch test first second) k n r.standing r.copies h).events

  -- an FSM its start, and in each turn its test and its next word
  module _ (k n : ℕ) (start : List PlainOp) (state : ℕ) (test : List PlainOp) (body : PlainNode) (next : List PlainOp) where
    abbrev pub turns_alone : Placed → (turn cycle : ℕ) → Turns → List Entry → List Stamped
    turns_alone r t c no_turn last = later c (list_run core r.copies (n + length start) (inside_at r.standing k (in_turn t) []) test last).events
    turns_alone r t c (more_turn es h ns rest) last =
        later c (list_run core r.copies (n + length start) (inside_at r.standing k (in_turn t) []) test es).events
        ++ (later (over_at core plan delays body (suc k) (n + (length start + length test)) (turn_of core plan delays start test next body k n r t c h)) (kept_run core r.copies (n + (length start + (length test + number_count body))) (inside_at r.standing k (in_turn t) []) next ns state (last_word ns)).events
        ++ turns_alone r (suc t) (over_at core plan delays body (suc k) (n + (length start + length test)) (turn_of core plan delays start test next body k n r t c h) + list_took core plan delays next) rest last)

    abbrev pub fsm_alone : Placed → History → List Stamped
    fsm_alone r (fsm_ran first turns last) =
        later (r.cycle + 1) (kept_run core r.copies n (inside_at r.standing k before []) start first state (last_word first)).events
        ++ turns_alone r 0 (r.cycle + (1 + list_took core plan delays start)) turns last
    fsm_alone r h = later r.cycle (timed core plan delays (fsm start state test body next) k n r.standing r.copies h).events

  -- and an outer body takes its bounds, and makes memories that it owns fresh
  module _ (k n : ℕ) (counters : List PlainCounter) (style : Style) (owned : List ℕ) (stages : PlainStages) where
    abbrev pub fresh_from : Placed → List (List (Run Stamped)) → (group : ℕ) → List (List (Run Stamped)) → List Stamped
    fresh_from r runs g [] = []
    fresh_from r runs g (row ∷ rows) =
        later r.cycle (fresh_events core plan delays (slots_of (node_plan plan k)) runs (node_plan plan k) stages (in_copies core plan delays owned g r.copies) g owned) ++ fresh_from r runs (suc g) rows

    abbrev pub outer_alone : Placed → History → List Stamped
    outer_alone r (outer_ran bs counts groups) =
        later r.cycle (stamped r.copies 0 (bounds_moments n (inside_at r.standing k before []) counters bs))
        ++ fresh_from r (table core plan delays counters owned stages k n 0 r (group_values (loops_of in_lanes counters bs)) groups) 0 (table core plan delays counters owned stages k n 0 r (group_values (loops_of in_lanes counters bs)) groups)
    outer_alone r h = later r.cycle (timed core plan delays (outer counters style owned stages) k n r.standing r.copies h).events

  -- however each event is weighed, those of all runs weigh as much as what the node does by itself and the runs of its parts: so
  -- each event of the whole is one of them, as often
  abbrev pub SidesAreTold : Type 0
  SidesAreTold =
      (weigh : Stamped → ℕ) (k n : ℕ) (test : List PlainOp) (first second : PlainNode) (runs : List Placed)
      → sum_by weigh (all_events (branch test first second) k n runs)
      ≡ sum_by weigh (flat_map (λ r. branch_alone k n test first second r r.history) runs)
      + (sum_by weigh (all_events first (suc k) (n + length test) (side_runs core plan delays test k true runs))
      + sum_by weigh (all_events second (suc k + node_count first) (n + (length test + number_count first)) (side_runs core plan delays test k false runs)))

  abbrev pub BodiesAreTold : Type 0
  BodiesAreTold =
      (weigh : Stamped → ℕ) (k n : ℕ) (start : List PlainOp) (state : ℕ) (test : List PlainOp) (body : PlainNode) (next : List PlainOp) (runs : List Placed)
      → sum_by weigh (all_events (fsm start state test body next) k n runs)
      ≡ sum_by weigh (flat_map (λ r. fsm_alone k n start state test body next r r.history) runs)
      + sum_by weigh (all_events body (suc k) (n + (length start + length test)) (body_runs core plan delays start test next body k n runs))

  abbrev pub StagesAreTold : Type 0
  StagesAreTold =
      (weigh : Stamped → ℕ) (k n : ℕ) (counters : List PlainCounter) (style : Style) (owned : List ℕ) (stages : PlainStages) (runs : List Placed)
      → sum_by weigh (all_events (outer counters style owned stages) k n runs)
      ≡ sum_by weigh (flat_map (λ r. outer_alone k n counters style owned stages r r.history) runs)
      + total (λ s. sum_by weigh (all_events (stage_at stages s) (node_at stages (suc k) s) (number_at stages (n + counters_size counters) s) (stage_runs core plan delays counters owned stages k n s runs))) (stage_count stages)
