-- Circuits of branches and FSMs over all runs of their nodes, as statements: where their parts do the runs that the timeline gives
-- them, they do theirs.
use Rattle.std.specs.Prelude.{ℕ, suc, ◌+◌, ◌≤◌, true, false, List, length, map}
use Rattle.sp_netlist.specs.declared.parts.Child.{Child}
use Rattle.sp_netlist.specs.Signals.{Signals}
use Rattle.sp_gates.specs.Tested.{is_on}
use Rattle.sp_ctrl.specs.Runs.{RunsBranch, RunsFsm}
use Rattle.sp_part_runs.specs.BodiesRuns.{IsOnAt}
use Rattle.sp_part_runs.specs.ControlBranches.{test_run}
use Rattle.sp_part_runs.specs.ControlMachines.{tests, nexts, first_run}
use Rattle.sp_part_runs.specs.ControlParts.{Ran, Begins, Ends, DoesRuns, Tells, runs_of}
use Rattle.sp_core.specs.Numbering.{node_count, number_count}
use Rattle.sp_core.specs.PlainCore.{PlainOp, PlainNode, fsm, branch, PlainCore}
use Rattle.sp_plan.specs.PlainPlan.{PlainPlan}
use Rattle.sp_machine.specs.Transfers.{Delays}
use Rattle.sp_node_runs.specs.Runs.{Placed, side_runs, body_runs}
use Rattle.sp_node_runs.specs.ControlRuns.{rans, AreBranches, branch_of, AreMachines, machine_of}

-- a part does runs, and is started in their cycles and in no other
abbrev pub Does : Signals → Child → List Ran → (last : ℕ) → Type 0
Does s c runs last = DoesRuns (is_on s c.start) (is_on s c.done) runs last

abbrev pub IsStarted : Signals → (start : ℕ) → List Ran → (last : ℕ) → Type 0
IsStarted s start runs last = IsOnAt (is_on s start) (Begins runs) last

module _ (core : PlainCore) (plan : PlainPlan) (delays : Delays) where
  pub record BranchGoes (s : Signals) (test chosen left : Child) (done last : ℕ) (k n : ℕ) (ops : List PlainOp) (first second : PlainNode) (runs : List Placed) : Type 0 where
    pub tests : IsStarted s test.start (runs_of (map (λ r. test_run (branch_of core plan delays k n ops first second r)) runs)) last
    pub goes : IsStarted s chosen.start (rans core plan delays first (suc k) (n + length ops) (side_runs core plan delays ops k true runs)) last
    pub turns : IsStarted s left.start (rans core plan delays second (suc k + node_count first) (n + (length ops + number_count first)) (side_runs core plan delays ops k false runs)) last
    pub ends : IsOnAt (is_on s done) (Ends (rans core plan delays (branch ops first second) k n runs)) last

  abbrev pub BranchesOfNodesWork : Type 0
  BranchesOfNodesWork =
      (s : Signals) (start : ℕ) (test : Child) (tested : ℕ) (chosen left : Child) (done last : ℕ) (k n : ℕ) (ops : List PlainOp) (first second : PlainNode) (runs : List Placed)
      → RunsBranch s start test tested chosen left done → AreBranches core plan delays runs
      → Does s test (runs_of (map (λ r. test_run (branch_of core plan delays k n ops first second r)) runs)) last
      → Tells (is_on s test.start) (is_on s tested) (map (λ r. test_run (branch_of core plan delays k n ops first second r)) runs) last
      → Does s chosen (rans core plan delays first (suc k) (n + length ops) (side_runs core plan delays ops k true runs)) last
      → Does s left (rans core plan delays second (suc k + node_count first) (n + (length ops + number_count first)) (side_runs core plan delays ops k false runs)) last
      → (t : ℕ) → t ≤ last → IsStarted s start (rans core plan delays (branch ops first second) k n runs) t → BranchGoes s test chosen left done t k n ops first second runs

  pub record MachineGoes (s : Signals) (first test body next : Child) (done last : ℕ) (k n : ℕ) (start : List PlainOp) (state : ℕ) (ops : List PlainOp) (node : PlainNode) (after : List PlainOp) (runs : List Placed) : Type 0 where
    pub begins : IsStarted s first.start (map (λ r. first_run (machine_of core plan delays k n start ops node after r)) runs) last
    pub tested : IsStarted s test.start (runs_of (tests (map (machine_of core plan delays k n start ops node after) runs))) last
    pub goes : IsStarted s body.start (rans core plan delays node (suc k) (n + (length start + length ops)) (body_runs core plan delays start ops after node k n runs)) last
    pub steps : IsStarted s next.start (nexts (map (machine_of core plan delays k n start ops node after) runs)) last
    pub ends : IsOnAt (is_on s done) (Ends (rans core plan delays (fsm start state ops node after) k n runs)) last

  abbrev pub MachinesOfNodesWork : Type 0
  MachinesOfNodesWork =
      (s : Signals) (starts : ℕ) (first test : Child) (tested : ℕ) (body next : Child) (done last : ℕ) (k n : ℕ) (start : List PlainOp) (state : ℕ) (ops : List PlainOp) (node : PlainNode) (after : List PlainOp) (runs : List Placed)
      → RunsFsm s starts first test tested body next done → AreMachines core plan delays runs
      → Does s first (map (λ r. first_run (machine_of core plan delays k n start ops node after r)) runs) last
      → Does s test (runs_of (tests (map (machine_of core plan delays k n start ops node after) runs))) last
      → Tells (is_on s test.start) (is_on s tested) (tests (map (machine_of core plan delays k n start ops node after) runs)) last
      → Does s body (rans core plan delays node (suc k) (n + (length start + length ops)) (body_runs core plan delays start ops after node k n runs)) last
      → Does s next (nexts (map (machine_of core plan delays k n start ops node after) runs)) last
      → (t : ℕ) → t ≤ last → IsStarted s starts (rans core plan delays (fsm start state ops node after) k n runs) t → MachineGoes s first test body next done t k n start state ops node after runs
