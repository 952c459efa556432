-- Runs of a node with the counters around each; from them those of its parts.
use Rattle.std.specs.Prelude.{◌≡◌, ℕ, suc, Bool, true, false, ℤ, List, [], ◌∷◌, ◌++◌, map, flat_map, Option}
use Rattle.sp_words.specs.declared.kind.Style.{Style}
use Rattle.sp_core.specs.Around.{Around}
use Rattle.sp_core.specs.History.{Entry, Bounds, Taken, History, Groups, inner_ran, outer_ran, moved, more_group}
use Rattle.sp_core.specs.Invariant.{IsRight}
use Rattle.sp_core.specs.PlainCore.{PlainOp, PlainCounter, PlainSpan, PlainNode, PlainStages, inner, outer, fsm, branch, load, store, PlainCore}
use Rattle.sp_core.specs.Scope.{Loop, Scope, in_lanes, loops_of, group_values, in_group}
use Rattle.sp_fitting.specs.Fitting.{HistoryFits}
use Rattle.sp_plan.specs.PlainPlan.{PlainPlan, node_plan}
use Rattle.sp_time.specs.Beats.{took_at, starts}
use Rattle.sp_machine.specs.Timeline.{slots_of}
use Rattle.sp_machine.specs.Transfers.{Delays}
use Rattle.sp_node_runs.specs.Runs.{Placed, side_in, side_runs, body_in, body_runs, stage_at, stage_history, table, stage_of, stage_runs}
use Rattle.sp_node_runs.specs.Bodies.{DidGroups}
use Rattle.sp_node_runs.specs.BodiesBounds.{DidBounds}
use Rattle.sp_node_runs.specs.BodiesSpans.{DidSpans}
use Rattle.sp_tree_runs.specs.BodiesDone.{AllDone}

pub record Scoped : Type 0 where
  pub run : Placed
  pub scope : Scope

abbrev pub placed : List Scoped → List Placed
placed qs = map (λ (q : Scoped). q.run) qs

abbrev pub with_scope : Scope → List Placed → List Scoped
with_scope scope runs = map (λ r. record { run = r; scope = scope }) runs

-- each did what the operations of its node do, at all depths
abbrev pub AllAreDone : PlainNode → List Scoped → Type 0
AllAreDone node [] = Unit {0}
AllAreDone node (q ∷ qs) = AllDone in_lanes node q.scope q.run.history × AllAreDone node qs

module _ (core : PlainCore) (plan : PlainPlan) (delays : Delays) where
  -- a side of a branch and the body of an FSM have the counters around them that the whole has
  abbrev pub scoped_sides : List PlainOp → (node : ℕ) → (side : Bool) → List Scoped → List Scoped
  scoped_sides test k side qs = flat_map (λ (q : Scoped). with_scope q.scope (side_in core plan delays test k side q.run q.run.history)) qs

  abbrev pub scoped_bodies : (start test next : List PlainOp) → PlainNode → (node n : ℕ) → List Scoped → List Scoped
  scoped_bodies start test next body k n qs = flat_map (λ (q : Scoped). with_scope q.scope (body_in core plan delays start test next body k n q.run q.run.history)) qs

  -- a stage of a loop those of its group, too
  module _ (counters : List PlainCounter) (owned : List ℕ) (stages : PlainStages) (k n s : ℕ) where
    abbrev pub scoped_groups : Scoped → (begins : (group : ℕ) → ℕ) → List Loop → (group : ℕ) → List (List ℤ) → Groups → List Scoped
    scoped_groups q begins loops g (v ∷ values) (more_group row rest) =
        with_scope (in_group q.scope loops v) (stage_of core plan delays counters owned stages k n s q.run (begins g) g v (stage_history stages row s)) ++ scoped_groups q begins loops (suc g) values rest
    scoped_groups q begins loops g _ _ = []

    abbrev pub scoped_stage_in : Scoped → History → List Scoped
    scoped_stage_in q (outer_ran bs counts groups) =
        scoped_groups q (λ g. starts (slots_of (node_plan plan k)) (took_at (table core plan delays counters owned stages k n s q.run (group_values (loops_of in_lanes counters bs)) groups)) g s) (loops_of in_lanes counters bs) 0 (group_values (loops_of in_lanes counters bs)) groups
    scoped_stage_in q _ = []

    abbrev pub scoped_stages : List Scoped → List Scoped
    scoped_stages qs = flat_map (λ (q : Scoped). scoped_stage_in q q.run.history) qs

  -- these are the runs of the parts, and each did what its operations do where those of the whole did
  pub record ScopedParts : Type 0 where
    pub sides : (k : ℕ) (test : List PlainOp) (side : Bool) (qs : List Scoped) → placed (scoped_sides test k side qs) ≡ side_runs core plan delays test k side (placed qs)
    pub bodies : (k n : ℕ) (start test : List PlainOp) (body : PlainNode) (next : List PlainOp) (qs : List Scoped) → placed (scoped_bodies start test next body k n qs) ≡ body_runs core plan delays start test next body k n (placed qs)
    pub stages : (k n : ℕ) (counters : List PlainCounter) (owned : List ℕ) (stages : PlainStages) (s : ℕ) (qs : List Scoped) → placed (scoped_stages counters owned stages k n s qs) ≡ stage_runs core plan delays counters owned stages k n s (placed qs)
    pub sides_done : (k : ℕ) (test : List PlainOp) (first second : PlainNode) (qs : List Scoped) → AllAreDone (branch test first second) qs → AllAreDone first (scoped_sides test k true qs) × AllAreDone second (scoped_sides test k false qs)
    pub bodies_done : (k n : ℕ) (start : List PlainOp) (state : ℕ) (test : List PlainOp) (body : PlainNode) (next : List PlainOp) (qs : List Scoped) → AllAreDone (fsm start state test body next) qs → AllAreDone body (scoped_bodies start test next body k n qs)
    pub stages_done : (k n : ℕ) (counters : List PlainCounter) (style : Style) (owned : List ℕ) (stages : PlainStages) (s : ℕ) (qs : List Scoped) → AllAreDone (outer counters style owned stages) qs → AllAreDone (stage_at stages s) (scoped_stages counters owned stages k n s qs)

  -- where its words fit, a run of an inner body did its groups and its bounds, one of a loop its bounds, and a transfer its slice
  pub record DoneSo : Type 0 where
    pub groups : (around : Around) (earlier : List ℕ) (counters : List PlainCounter) (owned : List ℕ) (ops : List PlainOp) (comb : Option ℕ) (scope : Scope) (h : History) → IsRight core around earlier (inner counters owned ops comb) → HistoryFits core (inner counters owned ops comb) h
        → AllDone in_lanes (inner counters owned ops comb) scope h → DidGroups scope counters ops h
    pub bounds : (around : Around) (earlier : List ℕ) (counters : List PlainCounter) (owned : List ℕ) (ops : List PlainOp) (comb : Option ℕ) (scope : Scope) (bs : List Bounds) (counts : List ℕ) (gs : List (List Entry)) → IsRight core around earlier (inner counters owned ops comb)
        → HistoryFits core (inner counters owned ops comb) (inner_ran bs counts gs) → AllDone in_lanes (inner counters owned ops comb) scope (inner_ran bs counts gs) → DidBounds scope counters bs
    pub loops : (around : Around) (earlier : List ℕ) (counters : List PlainCounter) (style : Style) (owned : List ℕ) (stages : PlainStages) (scope : Scope) (bs : List Bounds) (counts : List ℕ) (gs : Groups) → IsRight core around earlier (outer counters style owned stages)
        → HistoryFits core (outer counters style owned stages) (outer_ran bs counts gs) → AllDone in_lanes (outer counters style owned stages) scope (outer_ran bs counts gs) → DidBounds scope counters bs
    pub loads : (around : Around) (earlier : List ℕ) (r m : ℕ) (spans : List PlainSpan) (scope : Scope) (ts : List Taken) (ws : List ℕ) → IsRight core around earlier (load r m spans) → HistoryFits core (load r m spans) (moved ts ws) → AllDone in_lanes (load r m spans) scope (moved ts ws) → DidSpans scope spans ts
    pub stores : (around : Around) (earlier : List ℕ) (r m : ℕ) (spans : List PlainSpan) (scope : Scope) (ts : List Taken) (ws : List ℕ) → IsRight core around earlier (store r m spans) → HistoryFits core (store r m spans) (moved ts ws) → AllDone in_lanes (store r m spans) scope (moved ts ws) → DidSpans scope spans ts
