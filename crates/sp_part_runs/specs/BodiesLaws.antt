-- What the circuit of an inner body does over all of its runs, as statements.
use Rattle.std.specs.Prelude.{◌≡◌, ℕ, ◌<◌, ◌≤◌, Bool, List, length, map}
use Rattle.std.specs.List.{Contains}
use Rattle.sp_netlist.specs.Draft.{Draft}
use Rattle.sp_netlist.specs.Signals.{Signals}
use Rattle.sp_gates.specs.Runs.{RunsOn}
use Rattle.sp_gates.specs.Tested.{is_on}
use Rattle.sp_core.specs.PlainCore.{PlainOp}
use Rattle.sp_pipe.specs.declared.part.PipeOp.{PipeOp}
use Rattle.sp_pipe.specs.Acts.{ActsAt}
use Rattle.sp_pipe.specs.Issues.{IssuesOne, IssuesAll}
use Rattle.sp_pipe.specs.Right.{IsAt}
use Rattle.sp_part_runs.specs.BodiesActing.{BodyRun, begun, DoesGroup, AccessRight}
use Rattle.sp_part_runs.specs.BodiesRuns.{Begun, IsOnAt, AreApart, Begins, Issues, Ends, Tell}

-- groups are issued in the cycles of their runs and in no other, and runs are over when they are to
pub record IssueRight (issue done : ℕ → Bool) (interval latency : ℕ) (runs : List Begun) (last : ℕ) : Type 0 where
  pub issues : IsOnAt issue (Issues interval latency runs) last
  pub ends : IsOnAt done (Ends interval latency runs) last

-- a body whose starts are those of its runs, up to a cycle, and whose counters tell of their groups
abbrev pub BodiesIssue : Type 0
BodiesIssue =
    (start more step issue done : ℕ → Bool) (interval latency last : ℕ) (runs : List Begun) → 1 ≤ interval → 1 ≤ latency → IssuesAll start more step issue done interval latency
    → AreApart interval latency runs → IsOnAt start (Begins interval latency runs) last → Tell interval latency runs more last → IssueRight issue done interval latency runs last

-- a body of latency 0 is done in the cycle after each of its starts
abbrev pub BodiesEndAtOnce : Type 0
BodiesEndAtOnce =
    (start more step issue done : ℕ → Bool) (interval last : ℕ) (runs : List Begun) → IssuesAll start more step issue done interval 0
    → IsOnAt start (Begins interval 0 runs) last → IsOnAt done (Ends interval 0 runs) last

-- in each run the groups are what the operations did
abbrev pub AreDone : (interval : ℕ) → Draft → List PlainOp → List PipeOp → Signals → (last : ℕ) → List BodyRun → Type 0
AreDone interval d ops ps s last runs = (r : BodyRun) (g : ℕ) → Contains runs r → g < length r.groups → DoesGroup interval d ops ps s last r g

-- where its groups are issued in the cycles of its runs, each access of a body acts where it was made and nowhere else
abbrev pub BodiesAct : Type 0
BodiesAct =
    (d : Draft) (ops : List PlainOp) (ps : List PipeOp) (s : Signals) (issue interval latency last : ℕ) (runs : List BodyRun) → RunsOn s d.cells → IsOnAt (is_on s issue) (Issues interval latency (map begun runs)) last
    → AreDone interval d ops ps s last runs → (k : ℕ) (p : PipeOp) (enable : ℕ) (operands : List ℕ) → IsAt ps k p → ActsAt d issue ps p enable operands → AccessRight interval runs s last k p enable operands

-- Up to a cycle: where a body's starts are those of its runs, its counters tell of their groups, and its accesses are answered
-- with what they found, it is done where its runs are over, and each of its accesses acts where it was made and nowhere else.
pub record BodyWorks (d : Draft) (ps : List PipeOp) (s : Signals) (issue done interval latency last : ℕ) (runs : List BodyRun) : Type 0 where
  pub ends : IsOnAt (is_on s done) (Ends interval latency (map begun runs)) last
  pub accesses : (k : ℕ) (p : PipeOp) (enable : ℕ) (operands : List ℕ) → IsAt ps k p → ActsAt d issue ps p enable operands → AccessRight interval runs s last k p enable operands

abbrev pub BodiesWork : Type 0
BodiesWork =
    (d : Draft) (ops : List PlainOp) (ps : List PipeOp) (s : Signals) (start more step issue done interval latency last : ℕ) (runs : List BodyRun) → RunsOn s d.cells → 1 ≤ interval → 1 ≤ latency
    → IssuesAll (is_on s start) (is_on s more) (is_on s step) (is_on s issue) (is_on s done) interval latency → AreApart interval latency (map begun runs)
    → IsOnAt (is_on s start) (Begins interval latency (map begun runs)) last → Tell interval latency (map begun runs) (is_on s more) last → AreDone interval d ops ps s last runs
    → BodyWorks d ps s issue done interval latency last runs

-- so does a body without counters, whose runs have one group each, and a list of operations that is done once
abbrev pub SinglesWork : Type 0
SinglesWork =
    (d : Draft) (ops : List PlainOp) (ps : List PipeOp) (s : Signals) (start issue done interval latency last : ℕ) (runs : List BodyRun) → RunsOn s d.cells
    → IssuesOne (is_on s start) (is_on s issue) (is_on s done) latency → ((r : BodyRun) → Contains runs r → length r.groups ≡ 1)
    → IsOnAt (is_on s start) (Begins interval latency (map begun runs)) last → AreDone interval d ops ps s last runs
    → BodyWorks d ps s issue done interval latency last runs
