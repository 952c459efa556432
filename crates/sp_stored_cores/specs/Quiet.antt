-- What doesn't happen in the run of a core: nothing in the cycle in which it is started.
use Rattle.std.specs.Prelude.{◌≡◌, ◌≤◌, [], ◌∷◌}
use Rattle.sp_time.specs.Lists.{Each}
use Rattle.sp_core.specs.History.{History}
use Rattle.sp_core.specs.PlainCore.{PlainNode, inner, outer, fsm, branch, load, store, sparse, PlainCore}
use Rattle.sp_core.specs.Scope.{in_lanes, no_scope}
use Rattle.sp_plan.specs.PlainPlan.{PlainPlan}
use Rattle.sp_machine.specs.Stamps.{Stamped}
use Rattle.sp_machine.specs.Timeline.{core_timed}
use Rattle.sp_machine.specs.Transfers.{Delays}
use Rattle.sp_tree_runs.specs.BodiesDone.{AllDone}
use Rattle.sp_tree_circuits.specs.Laws.{core_events}

-- a controller that reads no bound where it is started
abbrev pub HasNoCounters : PlainNode → Type 0
HasNoCounters (inner [] owned ops comb) = Unit {0}
HasNoCounters (inner (c ∷ counters) owned ops comb) = ⊥
HasNoCounters (outer [] style owned stages) = Unit {0}
HasNoCounters (outer (c ∷ counters) style owned stages) = ⊥
HasNoCounters (fsm start state test body next) = Unit {0}
HasNoCounters (branch test first second) = Unit {0}
HasNoCounters (load r m spans) = ⊥
HasNoCounters (store r m spans) = ⊥
HasNoCounters (sparse kind r m places spans count par) = ⊥

module _ (core : PlainCore) (plan : PlainPlan) (delays : Delays) where
  abbrev pub CoreEventsAreTimed : Type 0
  CoreEventsAreTimed = (h : History) → core_events core plan delays h ≡ (core_timed core plan delays h).events

  abbrev pub NothingBeginsAtOnce : Type 0
  NothingBeginsAtOnce = HasNoCounters core.root → (h : History) → AllDone in_lanes core.root no_scope h → Each (λ (x : Stamped). 1 ≤ x.cycle) (core_events core plan delays h)

  -- nor is it over then
  abbrev pub RunsTakeTime : Type 0
  RunsTakeTime = HasNoCounters core.root → (h : History) → AllDone in_lanes core.root no_scope h → 1 ≤ (core_timed core plan delays h).took
