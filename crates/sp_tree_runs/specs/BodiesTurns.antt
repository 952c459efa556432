-- The lists of an FSM in its runs, turn after turn, and what their circuits do, as statements.
use Rattle.std.specs.Prelude.{ℕ, suc, ◌+◌, List, [], ◌∷◌, map, flat_map, length}
use Rattle.sp_netlist.specs.declared.parts.Child.{Child}
use Rattle.sp_netlist.specs.Signals.{Signals}
use Rattle.sp_gates.specs.Tested.{is_on}
use Rattle.sp_core.specs.Around.{Around, Near}
use Rattle.sp_core.specs.Events.{inside_at, before, in_turn}
use Rattle.sp_core.specs.History.{Entry, History, Turns, fsm_ran, no_turn, more_turn}
use Rattle.sp_core.specs.Invariant.{IsRight}
use Rattle.sp_core.specs.Numbering.{number_count}
use Rattle.sp_core.specs.PlainCore.{PlainOp, PlainNode, fsm, PlainCore}
use Rattle.sp_core.specs.Scope.{Scope}
use Rattle.sp_part_runs.specs.ControlMachines.{tests, nexts, first_run}
use Rattle.sp_part_runs.specs.ControlParts.{Tells, runs_of}
use Rattle.sp_plan.specs.PlainPlan.{PlainPlan}
use Rattle.sp_machine.specs.Transfers.{Delays}
use Rattle.sp_node_runs.specs.Runs.{Placed, told, list_took, turn_of}
use Rattle.sp_node_runs.specs.ControlLaws.{Does}
use Rattle.sp_node_runs.specs.ControlRuns.{machine_of}
use Rattle.sp_node_runs.specs.FitsLaws.{AllFit}
use Rattle.sp_node_runs.specs.BodiesGiven.{Nets}
use Rattle.sp_node_runs.specs.BodiesLists.{ListRun}
use Rattle.sp_tree_runs.specs.BodiesScoped.{Scoped, placed, AllAreDone}
use Rattle.sp_tree_runs.specs.BodiesScopes.{TestPart}

module _ (core : PlainCore) (plan : PlainPlan) (delays : Delays) (k n : ℕ) (start ops : List PlainOp) (node : PlainNode) (after : List PlainOp) where
  -- the start begins a cycle after the whole
  abbrev pub started_in : History → List Entry
  started_in (fsm_ran first turns last) = first
  started_in h = []

  abbrev pub start_list : Scoped → ListRun
  start_list q = record { cycle = suc q.run.cycle; standing = inside_at q.run.standing k before []; copies = q.run.copies; scope = q.scope; entries = started_in q.run.history }

  -- how long the body of a turn takes
  abbrev pub body_took : Placed → (turn : ℕ) → History → ℕ
  body_took r t h = (told core plan delays node (suc k) (n + (length start + length ops)) (turn_of core plan delays start ops after node k n r t 0 h)).took

  -- the tests, and the next words, from a turn on whose test begins in a cycle
  abbrev pub list_in_turn : Placed → Scope → (turn cycle : ℕ) → List Entry → ListRun
  list_in_turn r scope t p es = record { cycle = p; standing = inside_at r.standing k (in_turn t) []; copies = r.copies; scope = scope; entries = es }

  abbrev pub tests_in : Placed → Scope → (turn cycle : ℕ) → Turns → List Entry → List ListRun
  tests_in r scope t p no_turn last = list_in_turn r scope t p last ∷ []
  tests_in r scope t p (more_turn es h ns rest) last =
      list_in_turn r scope t p es ∷ tests_in r scope (suc t) (p + list_took core plan delays ops + body_took r t h + list_took core plan delays after) rest last

  abbrev pub nexts_in : Placed → Scope → (turn cycle : ℕ) → Turns → List ListRun
  nexts_in r scope t p no_turn = []
  nexts_in r scope t p (more_turn es h ns rest) =
      list_in_turn r scope t (p + list_took core plan delays ops + body_took r t h) ns ∷ nexts_in r scope (suc t) (p + list_took core plan delays ops + body_took r t h + list_took core plan delays after) rest

  -- of a run; the first test begins where the start is over
  abbrev pub test_lists_in : Scoped → History → List ListRun
  test_lists_in q (fsm_ran first turns last) = tests_in q.run q.scope 0 (suc q.run.cycle + list_took core plan delays start) turns last
  test_lists_in q h = []

  abbrev pub next_lists_in : Scoped → History → List ListRun
  next_lists_in q (fsm_ran first turns last) = nexts_in q.run q.scope 0 (suc q.run.cycle + list_took core plan delays start) turns
  next_lists_in q h = []

  abbrev pub test_lists : List Scoped → List ListRun
  test_lists qs = flat_map (λ (q : Scoped). test_lists_in q q.run.history) qs

  abbrev pub next_lists : List Scoped → List ListRun
  next_lists qs = flat_map (λ (q : Scoped). next_lists_in q q.run.history) qs

module _ (core : PlainCore) (plan : PlainPlan) (delays : Delays) where
  -- up to a cycle the circuits of the lists do their runs, and the test tells in each whether the FSM goes on
  pub record ListsTell (s : Signals) (last : ℕ) (k n : ℕ) (start ops : List PlainOp) (node : PlainNode) (after : List PlainOp) (qs : List Scoped) (first test next : Child) (tested : ℕ) : Type 0 where
    pub begins : Does s first (map (λ r. first_run (machine_of core plan delays k n start ops node after r)) (placed qs)) last
    pub does : Does s test (runs_of (tests (map (machine_of core plan delays k n start ops node after) (placed qs)))) last
    pub tells : Tells (is_on s test.start) (is_on s tested) (tests (map (machine_of core plan delays k n start ops node after) (placed qs))) last
    pub steps : Does s next (nexts (map (machine_of core plan delays k n start ops node after) (placed qs))) last

  abbrev pub TurnsTell : Type 0
  TurnsTell =
      (s : Signals) (last : ℕ) (k n : ℕ) (start : List PlainOp) (state : ℕ) (ops : List PlainOp) (node : PlainNode) (after : List PlainOp) (near : List Near) (env : Nets) (around : Around) (earlier : List ℕ) (qs : List Scoped) (first test next : Child) (begun tested stepped : ℕ)
      → IsRight core around earlier (fsm start state ops node after) → AllAreDone (fsm start state ops node after) qs → AllFit core plan delays (fsm start state ops node after) (placed qs)
      → TestPart core plan delays s last n start near env (map (start_list core plan delays k n start ops node after) qs) first begun
      → TestPart core plan delays s last (n + length start) ops near env (test_lists core plan delays k n start ops node after qs) test tested
      → TestPart core plan delays s last (n + (length start + (length ops + number_count node))) after near env (next_lists core plan delays k n start ops node after qs) next stepped
      → ListsTell s last k n start ops node after qs first test next tested
