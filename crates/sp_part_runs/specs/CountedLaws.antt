-- What a body under counters does over all of its runs, as statements.
use Rattle.std.specs.Prelude.{◌≡◌, ℕ, ◌≤◌, Bool, List, map}
use Rattle.sp_netlist.specs.Draft.{Draft}
use Rattle.sp_netlist.specs.Signals.{Signals}
use Rattle.sp_gates.specs.Runs.{RunsOn}
use Rattle.sp_gates.specs.Tested.{is_on}
use Rattle.sp_core.specs.PlainCore.{PlainOp}
use Rattle.sp_core.specs.Scope.{Loop}
use Rattle.sp_pipe.specs.declared.part.PipeOp.{PipeOp}
use Rattle.sp_pipe.specs.Issues.{IssuesAll}
use Rattle.sp_counters.specs.declared.part.Counters.{Counters}
use Rattle.sp_counters.specs.declared.part.Counted.{Counted}
use Rattle.sp_counters.specs.Counting.{CountsGroups}
use Rattle.sp_part_runs.specs.BodiesActing.{BodyRun, begun}
use Rattle.sp_part_runs.specs.BodiesLaws.{AreDone, BodyWorks}
use Rattle.sp_part_runs.specs.BodiesRuns.{Begun, IsOnAt, AreApart, Begins, Tell}
use Rattle.sp_part_runs.specs.CountedLoops.{AreLoopsOf, AreInGroups}

-- counters and a body that goes on by them, both started in the cycles of the body's runs
pub record IsLoop (s : Signals) (part : Counters) (nets : Counted) (issue done interval latency : ℕ) : Type 0 where
  pub some_interval : 1 ≤ interval
  pub some_latency : 1 ≤ latency
  pub counts : CountsGroups s part nets
  pub issues : IssuesAll (is_on s part.start) (is_on s nets.more) (is_on s part.step) (is_on s issue) (is_on s done) interval latency

abbrev pub CountersTell : Type 0
CountersTell =
    (s : Signals) (part : Counters) (nets : Counted) (issue done interval latency last : ℕ) (runs : List Begun) (loops : Begun → List Loop) → IsLoop s part nets issue done interval latency
    → AreApart interval latency runs → IsOnAt (is_on s part.start) (Begins interval latency runs) last → AreLoopsOf s part loops runs last
    → Tell interval latency runs (is_on s nets.more) last × AreInGroups s part nets loops interval runs last

-- Where up to a cycle a body and its counters are started in the cycles of its runs, with the bounds of their loops, and its
-- groups are what the operations of the core did, where the counters have the words that they have in the groups, it is done
-- where its runs are over, and each access acts where it was made and nowhere else.
abbrev pub LoopsWork : Type 0
LoopsWork =
    (d : Draft) (ops : List PlainOp) (ps : List PipeOp) (s : Signals) (part : Counters) (nets : Counted) (issue done interval latency last : ℕ) (runs : List BodyRun) (loops : Begun → List Loop) → RunsOn s d.cells
    → IsLoop s part nets issue done interval latency → AreApart interval latency (map begun runs) → IsOnAt (is_on s part.start) (Begins interval latency (map begun runs)) last → AreLoopsOf s part loops (map begun runs) last
    → (AreInGroups s part nets loops interval (map begun runs) last → AreDone interval d ops ps s last runs) → BodyWorks d ps s issue done interval latency last runs
