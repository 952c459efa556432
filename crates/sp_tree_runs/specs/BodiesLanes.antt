-- How many groups a run of a loop in beats has, and which of its stages have a lane, as a statement.
use Rattle.std.specs.Prelude.{◌≡◌, ℕ, zero, suc, ◌<◌, Bool, false, List, [], length, slice_index_or}
use Rattle.sp_words.specs.declared.kind.Style.{Style}
use Rattle.sp_core.specs.History.{History, outer_ran}
use Rattle.sp_core.specs.PlainCore.{PlainCounter, PlainStages, outer, no_stage, more_stage, PlainCore}
use Rattle.sp_core.specs.Scope.{Loop, in_lanes, loops_of, group_values, is_live, is_some_live}
use Rattle.sp_plan.specs.PlainPlan.{PlainPlan}
use Rattle.sp_machine.specs.Transfers.{Delays}
use Rattle.sp_node_runs.specs.ControlBeating.{has_lane, groups_of, values_of, rows_of}
use Rattle.sp_tree_runs.specs.BodiesDone.{AllDone}
use Rattle.sp_tree_runs.specs.BodiesScoped.{Scoped}

-- the loops of a run
abbrev pub loops_ran : List PlainCounter → History → List Loop
loops_ran counters (outer_ran bs counts groups) = loops_of in_lanes counters bs
loops_ran counters h = []

-- whether a stage has one of these lanes
abbrev pub is_stage_live : PlainStages → (live : ℕ → Bool) → (stage : ℕ) → Bool
is_stage_live (more_stage first last comb node rest) live zero = is_some_live live first last
is_stage_live (more_stage first last comb node rest) live (suc s) = is_stage_live rest live s
is_stage_live no_stage live s = false

module _ (core : PlainCore) (plan : PlainPlan) (delays : Delays) where
  -- there is a group for each of the loops' values, and a stage runs in it exactly where one of its lanes has an iteration
  pub record HasGroups (k n : ℕ) (counters : List PlainCounter) (owned : List ℕ) (stages : PlainStages) (places : List (List (List ℕ))) (q : Scoped) : Type 0 where
    pub groups : length (rows_of core plan delays k n counters owned stages places q.run) ≡ length (group_values (loops_ran counters q.run.history))
    pub lanes : (g stage : ℕ) → g < length (group_values (loops_ran counters q.run.history))
        → has_lane stages (values_of counters q.run.history) (groups_of q.run.history) g stage ≡ is_stage_live stages (is_live (loops_ran counters q.run.history) (slice_index_or (group_values (loops_ran counters q.run.history)) g [])) stage

  abbrev pub LoopsHaveGroups : Type 0
  LoopsHaveGroups =
      (k n : ℕ) (counters : List PlainCounter) (style : Style) (owned : List ℕ) (stages : PlainStages) (places : List (List (List ℕ))) (q : Scoped) → AllDone in_lanes (outer counters style owned stages) q.scope q.run.history → HasGroups k n counters owned stages places q
