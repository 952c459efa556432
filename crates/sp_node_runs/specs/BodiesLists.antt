-- Lists of operations that are done one after the other, as the start, the test and the next state of an FSM and the test of a branch:
-- their circuits over all of their runs, in the cycles of the timeline, as statements.
use Rattle.std.specs.Prelude.{◌≡◌, ℕ, suc, ◌+◌, ◌≤◌, true, IsTrue, List, [], ◌∷◌, map, flat_map, take}
use Rattle.std.specs.List.{Contains}
use Rattle.sp_netlist.specs.Draft.{Draft}
use Rattle.sp_netlist.specs.Signals.{Signals}
use Rattle.sp_gates.specs.Runs.{RunsOn}
use Rattle.sp_gates.specs.Tested.{is_on}
use Rattle.sp_core.specs.Around.{Near}
use Rattle.sp_core.specs.Events.{Standing}
use Rattle.sp_core.specs.History.{Entry, word_at}
use Rattle.sp_core.specs.Latency.{latency_of_all}
use Rattle.sp_core.specs.PlainCore.{PlainOp, PlainCore}
use Rattle.sp_core.specs.Scope.{Scope}
use Rattle.sp_fitting.specs.Fitting.{MasksAreBits}
use Rattle.sp_machine.specs.Stamps.{Stamped, Copies, later, list_run}
use Rattle.sp_pipe.specs.declared.part.PipeOp.{PipeOp}
use Rattle.sp_pipe.specs.Acts.{ActsAt, HasWord}
use Rattle.sp_pipe.specs.Issues.{IssuesOne}
use Rattle.sp_pipe.specs.Right.{IsAt}
use Rattle.sp_pipe.specs.Values.{gives_word, time_of}
use Rattle.sp_part_runs.specs.ActsEntries.{AreEntries, IndicesAreWords, IsOpAt, touches_memory}
use Rattle.sp_part_runs.specs.BodiesActing.{BodyRun}
use Rattle.sp_part_runs.specs.BodiesRuns.{IsOnAt}
use Rattle.sp_part_runs.specs.ControlParts.{Ran, Ends}
use Rattle.sp_node_runs.specs.ControlLaws.{IsStarted}
use Rattle.sp_node_runs.specs.Bodies.{AreTimedOps}
use Rattle.sp_node_runs.specs.BodiesGiven.{Nets, AreStanding, AreGivenBy}
use Rattle.sp_node_runs.specs.BodiesTold.{ActsInTime, AreAnsweredInTime}

-- what the operations of a list did in the scope of a run; masks are bits, and indices words of `Int`
pub record DidList (scope : Scope) (ops : List PlainOp) (es : List Entry) : Type 0 where
  pub entries : AreEntries scope ops es
  pub bits : MasksAreBits ops es
  pub indices : IndicesAreWords ops es

-- a run from a cycle on: where it stands, the copies at hand, the counters around, and what each operation did
pub record ListRun : Type 0 where
  pub cycle : ℕ
  pub standing : Standing
  pub copies : Copies
  pub scope : Scope
  pub entries : List Entry

-- as a body with one group
abbrev pub list_body : ListRun → BodyRun
list_body r = record { cycle = r.cycle; scopes = λ g. r.scope; groups = r.entries ∷ [] }

module _ (core : PlainCore) where
  -- each operation begins where the ones before it are over
  abbrev pub turn_time : List PlainOp → (place : ℕ) → ℕ
  turn_time ops k = latency_of_all core (take k ops)

  abbrev pub list_ran : List PlainOp → ListRun → Ran
  list_ran ops r = record { cycle = r.cycle; took = 2 + latency_of_all core ops }

  -- what happens, by the number of the first operation
  abbrev pub list_events : (number : ℕ) → List PlainOp → ListRun → List Stamped
  list_events n ops r = later r.cycle (list_run core r.copies n r.standing ops r.entries).events

  abbrev pub all_listed : (number : ℕ) → List PlainOp → List ListRun → List Stamped
  all_listed n ops runs = flat_map (list_events n ops) runs

  -- up to a cycle a list is done where its runs are over, its accesses act at their events, and where the net of a word stands, it
  -- has the word of the run
  pub record ListGoes (s : Signals) (d : Draft) (ps : List PipeOp) (issue done last n : ℕ) (ops : List PlainOp) (runs : List ListRun) : Type 0 where
    pub ends : IsOnAt (is_on s done) (Ends (map (list_ran ops) runs)) last
    pub acts : (i : ℕ) (op : PlainOp) (p : PipeOp) (enable : ℕ) (operands : List ℕ) → IsOpAt ops i op → touches_memory op.kind ≡ true → IsAt ps i p → ActsAt d issue ps p enable operands → ActsInTime s (all_listed n ops runs) last (n + i) op.kind enable operands
    pub words : (r : ListRun) (k : ℕ) (p : PipeOp) (net time : ℕ) → Contains runs r → IsAt ps k p → IsTrue (gives_word p.act) → time_of p.act p.mask p.time ≤ time → HasWord d net time ps k → suc r.cycle + time ≤ last
        → s.net (suc r.cycle + time) net ≡ word_at r.entries k

  abbrev pub ListsWork : Type 0
  ListsWork =
      (s : Signals) (d : Draft) (start : ℕ) (ps : List PipeOp) (issue done last n : ℕ) (ops : List PlainOp) (near : List Near) (env : Nets) (runs : List ListRun) → RunsOn s d.cells → IssuesOne (is_on s start) (is_on s issue) (is_on s done) (latency_of_all core ops)
      → AreTimedOps d ops ps (turn_time ops) → AreGivenBy s near env ops ps → ((r : ListRun) → Contains runs r → DidList r.scope ops r.entries) → ((r : ListRun) → Contains runs r → suc r.cycle ≤ last → AreStanding s (suc r.cycle) near env r.scope)
      → AreAnsweredInTime s (all_listed n ops runs) last n ops ps → (t : ℕ) → t ≤ last → IsStarted s start (map (list_ran ops) runs) t → ListGoes s d ps issue done t n ops runs
