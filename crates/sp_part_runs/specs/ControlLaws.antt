-- What FSMs and branches do over all of their runs, as statements.
use Rattle.std.specs.Prelude.{ℕ, true, false, List, map}
use Rattle.sp_netlist.specs.declared.parts.Child.{Child}
use Rattle.sp_netlist.specs.Signals.{Signals}
use Rattle.sp_gates.specs.Tested.{is_on}
use Rattle.sp_ctrl.specs.Runs.{RunsBranch, RunsFsm}
use Rattle.sp_part_runs.specs.BodiesRuns.{IsOnAt}
use Rattle.sp_part_runs.specs.ControlParts.{Begins, Ends, DoesRuns, Tells, runs_of}
use Rattle.sp_part_runs.specs.ControlBranches.{BranchRan, test_run, part_runs, whole_run as branch_run}
use Rattle.sp_part_runs.specs.ControlMachines.{MachineRan, tests, bodies, nexts, first_run, whole_run as machine_run}

-- up to a cycle the parts are started in the cycles of their runs and in no other, and the whole is done where its runs are over
pub record BranchWorks (s : Signals) (test chosen left : Child) (done last : ℕ) (runs : List BranchRan) : Type 0 where
  pub tests : IsOnAt (is_on s test.start) (Begins (runs_of (map test_run runs))) last
  pub goes : IsOnAt (is_on s chosen.start) (Begins (part_runs true runs)) last
  pub turns : IsOnAt (is_on s left.start) (Begins (part_runs false runs)) last
  pub ends : IsOnAt (is_on s done) (Ends (map branch_run runs)) last

-- where its starts are those of its runs, and its parts do theirs
abbrev pub BranchesWork : Type 0
BranchesWork =
    (s : Signals) (start : ℕ) (test : Child) (tested : ℕ) (chosen left : Child) (done last : ℕ) (runs : List BranchRan) → RunsBranch s start test tested chosen left done → IsOnAt (is_on s start) (Begins (map branch_run runs)) last
    → DoesRuns (is_on s test.start) (is_on s test.done) (runs_of (map test_run runs)) last → Tells (is_on s test.start) (is_on s tested) (map test_run runs) last
    → DoesRuns (is_on s chosen.start) (is_on s chosen.done) (part_runs true runs) last → DoesRuns (is_on s left.start) (is_on s left.done) (part_runs false runs) last
    → BranchWorks s test chosen left done last runs

pub record MachineWorks (s : Signals) (first test body next : Child) (done last : ℕ) (runs : List MachineRan) : Type 0 where
  pub begins : IsOnAt (is_on s first.start) (Begins (map first_run runs)) last
  pub tested : IsOnAt (is_on s test.start) (Begins (runs_of (tests runs))) last
  pub goes : IsOnAt (is_on s body.start) (Begins (bodies runs)) last
  pub steps : IsOnAt (is_on s next.start) (Begins (nexts runs)) last
  pub ends : IsOnAt (is_on s done) (Ends (map machine_run runs)) last

abbrev pub MachinesWork : Type 0
MachinesWork =
    (s : Signals) (start : ℕ) (first test : Child) (tested : ℕ) (body next : Child) (done last : ℕ) (runs : List MachineRan) → RunsFsm s start first test tested body next done
    → IsOnAt (is_on s start) (Begins (map machine_run runs)) last → DoesRuns (is_on s first.start) (is_on s first.done) (map first_run runs) last
    → DoesRuns (is_on s test.start) (is_on s test.done) (runs_of (tests runs)) last → Tells (is_on s test.start) (is_on s tested) (tests runs) last
    → DoesRuns (is_on s body.start) (is_on s body.done) (bodies runs) last → DoesRuns (is_on s next.start) (is_on s next.done) (nexts runs) last
    → MachineWorks s first test body next done last runs
