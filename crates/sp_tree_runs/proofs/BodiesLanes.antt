-- Runs of loops in beats have all of their groups.
use Rattle.std.proofs.Common.{◌≡◌, ℕ, zero, suc, ◌+◌, ◌<◌, Bool, ℤ, List, [], ◌∷◌, length, slice_index_or, refl, sym, ap, arith}
use Rattle.sp_words.specs.declared.kind.Style.{Style}
use Rattle.sp_core.specs.Events.{Standing}
use Rattle.sp_core.specs.History.{History, Groups, Runs, outer_ran, no_group, more_group, no_run, masked_run, more_run}
use Rattle.sp_core.specs.Numbering.{counters_size}
use Rattle.sp_core.specs.PlainCore.{PlainCounter, PlainStages, outer, no_stage, more_stage, PlainCore}
use Rattle.sp_core.specs.Scope.{Loop, Scope, in_lanes, loops_of, group_values, is_live, in_group}
use Rattle.sp_plan.specs.PlainPlan.{PlainPlan}
use Rattle.sp_machine.specs.Stamps.{Copies}
use Rattle.sp_machine.specs.Timeline.{group_runs}
use Rattle.sp_machine.specs.Transfers.{Delays}
use Rattle.sp_node_runs.specs.Runs.{Placed, table, stage_history}
use Rattle.sp_node_runs.specs.ControlBeating.{is_some, has_lane, groups_of, values_of}
use Rattle.sp_tree_runs.specs.BodiesDone.{AllDone, GroupsDone, RunsDone}
use Rattle.sp_tree_runs.specs.BodiesLanes.{loops_ran, is_stage_live, LoopsHaveGroups}

row_lanes : (stages : PlainStages) (live : ℕ → Bool) (scope : Scope) (hs : Runs) (s : ℕ) → RunsDone in_lanes stages live scope hs → is_some (stage_history stages hs s) ≡ is_stage_live stages live s
row_lanes (more_stage first last comb node rest) live scope (more_run h hs) zero f = sym f.0
row_lanes (more_stage first last comb node rest) live scope (more_run h hs) (suc s) f = row_lanes rest live scope hs s f.2
row_lanes (more_stage first last comb node rest) live scope (masked_run hs) zero f = sym f.0
row_lanes (more_stage first last comb node rest) live scope (masked_run hs) (suc s) f = row_lanes rest live scope hs s f.1
row_lanes (more_stage first last comb node rest) live scope no_run s f = elim f [ ]
row_lanes no_stage live scope hs s f = refl

module _ (stages : PlainStages) (scope : Scope) (loops : List Loop) where
  lanes_are : (values : List (List ℤ)) (groups : Groups) (g s : ℕ) → GroupsDone in_lanes stages scope loops values groups → g < length values → has_lane stages values groups g s ≡ is_stage_live stages (is_live loops (slice_index_or values g [])) s
  lanes_are [] groups g s f l = absurd (omega (arith, l))
  lanes_are (v ∷ values) no_group g s f l = elim f [ ]
  lanes_are (v ∷ values) (more_group row rest) zero s f l = row_lanes stages (is_live loops v) (in_group scope loops v) row s f.0
  lanes_are (v ∷ values) (more_group row rest) (suc g) s f l = lanes_are values rest g s f.1 (omega (arith, l))

  module _ (core : PlainCore) (plan : PlainPlan) (delays : Delays) where
    all_rows : (k n b : ℕ) (st : Standing) (owned : List ℕ) (copies : Copies) (values : List (List ℤ)) (groups : Groups) → GroupsDone in_lanes stages scope loops values groups → length (group_runs core plan delays stages k n b st owned copies values groups) ≡ length values
    unfolding group_runs
    all_rows k n b st owned copies (v ∷ values) (more_group row rest) f = ap suc (all_rows k n (suc b) st owned copies values rest f.1)
    all_rows k n b st owned copies [] no_group f = refl
    all_rows k n b st owned copies (v ∷ values) no_group f = elim f [ ]
    all_rows k n b st owned copies [] (more_group row rest) f = elim f [ ]

module _ (core : PlainCore) (plan : PlainPlan) (delays : Delays) (k n : ℕ) (counters : List PlainCounter) (style : Style) (owned : List ℕ) (stages : PlainStages) where
  each_group : (r : Placed) (scope : Scope) (h : History) → AllDone in_lanes (outer counters style owned stages) scope h → length (table core plan delays counters owned stages k n 0 r (values_of counters h) (groups_of h)) ≡ length (group_values (loops_ran counters h))
  each_group r scope (outer_ran bs counts groups) f = all_rows stages scope (loops_of in_lanes counters bs) core plan delays k (n + counters_size counters) 0 r.standing owned r.copies (group_values (loops_of in_lanes counters bs)) groups f.1
  each_group r scope h f = elim f [ ]

  each_lane : (scope : Scope) (h : History) → AllDone in_lanes (outer counters style owned stages) scope h → (g s : ℕ) → g < length (group_values (loops_ran counters h))
      → has_lane stages (values_of counters h) (groups_of h) g s ≡ is_stage_live stages (is_live (loops_ran counters h) (slice_index_or (group_values (loops_ran counters h)) g [])) s
  each_lane scope (outer_ran bs counts groups) f g s l = lanes_are stages scope (loops_of in_lanes counters bs) (group_values (loops_of in_lanes counters bs)) groups g s f.1 l
  each_lane scope h f g s l = elim f [ ]

pub loops_have_groups : (core : PlainCore) (plan : PlainPlan) (delays : Delays) → LoopsHaveGroups core plan delays
loops_have_groups core plan delays k n counters style owned stages places q f =
    record { groups = each_group core plan delays k n counters style owned stages q.run q.scope q.run.history f; lanes = each_lane core plan delays k n counters style owned stages q.scope q.run.history f }
