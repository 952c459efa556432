-- At the numbers of a list of operations what happens in runs of a branch or an FSM is what its operations did in the runs of the list,
-- as statements.
use Rattle.std.specs.Prelude.{ℕ, ◌+◌, List, length, map}
use Rattle.sp_core.specs.Numbering.{number_count}
use Rattle.sp_core.specs.PlainCore.{PlainOp, PlainNode, fsm, branch, PlainCore}
use Rattle.sp_plan.specs.PlainPlan.{PlainPlan}
use Rattle.sp_machine.specs.Transfers.{Delays}
use Rattle.sp_overlap.specs.Whole.{IsTimed}
use Rattle.sp_node_runs.specs.RunsTold.{all_events}
use Rattle.sp_node_runs.specs.BodiesLists.{all_listed}
use Rattle.sp_tree_runs.specs.BodiesScoped.{Scoped, placed}
use Rattle.sp_tree_runs.specs.BodiesScopes.{test_list}
use Rattle.sp_tree_runs.specs.BodiesTurns.{start_list, test_lists, next_lists}
use Rattle.sp_tree_events.specs.PartsAgreeing.{AgreeIn}

module _ (core : PlainCore) (plan : PlainPlan) (delays : Delays) where
  -- of the test of a branch
  abbrev pub BranchTestsAgree : Type 0
  BranchTestsAgree =
      (k n : ℕ) (test : List PlainOp) (first second : PlainNode) (qs : List Scoped) → IsTimed first → IsTimed second
      → AgreeIn (all_events core plan delays (branch test first second) k n (placed qs)) (all_listed core n test (map (test_list k) qs)) n (n + length test)

  -- of the start, the test and the next state of an FSM
  pub record ListsAgreeIn (k n : ℕ) (start : List PlainOp) (state : ℕ) (test : List PlainOp) (body : PlainNode) (next : List PlainOp) (qs : List Scoped) : Type 0 where
    pub starts : AgreeIn (all_events core plan delays (fsm start state test body next) k n (placed qs)) (all_listed core n start (map (start_list core plan delays k n start test body next) qs)) n (n + length start)
    pub tests : AgreeIn (all_events core plan delays (fsm start state test body next) k n (placed qs)) (all_listed core (n + length start) test (test_lists core plan delays k n start test body next qs)) (n + length start) (n + length start + length test)
    pub nexts : AgreeIn (all_events core plan delays (fsm start state test body next) k n (placed qs)) (all_listed core (n + (length start + (length test + number_count body))) next (next_lists core plan delays k n start test body next qs))
        (n + (length start + (length test + number_count body))) (n + (length start + (length test + number_count body)) + length next)

  abbrev pub MachineListsAgree : Type 0
  MachineListsAgree =
      (k n : ℕ) (start : List PlainOp) (state : ℕ) (test : List PlainOp) (body : PlainNode) (next : List PlainOp) (qs : List Scoped) → IsTimed body → ListsAgreeIn k n start state test body next qs
