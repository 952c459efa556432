-- Circuits of inner bodies over all runs of their nodes, as statements.
use Rattle.std.specs.Prelude.{◌≡◌, ℕ, ◌+◌, ◌<◌, ◌≤◌, true, List, [], ◌++◌, map, length, slice_index, Option}
use Rattle.std.specs.List.{Contains}
use Rattle.sp_netlist.specs.Draft.{Draft}
use Rattle.sp_netlist.specs.Signals.{Signals}
use Rattle.sp_gates.specs.Runs.{RunsOn}
use Rattle.sp_gates.specs.Tested.{is_on}
use Rattle.sp_core.specs.Around.{Near, lanes_of}
use Rattle.sp_core.specs.History.{Bounds}
use Rattle.sp_core.specs.Numbering.{counters_size}
use Rattle.sp_core.specs.PlainCore.{PlainOp, PlainCounter, inner, PlainCore}
use Rattle.sp_core.specs.Scope.{Scope, in_lanes, loops_of, group_values}
use Rattle.sp_plan.specs.PlainPlan.{PlainPlan, node_plan}
use Rattle.sp_machine.specs.Timeline.{times_of, interval_of, latency_of}
use Rattle.sp_machine.specs.Transfers.{Delays}
use Rattle.sp_counters.specs.declared.part.Counters.{Counters}
use Rattle.sp_counters.specs.declared.part.Counted.{Counted}
use Rattle.sp_counters.specs.Counting.{CountsGroups}
use Rattle.sp_counters.specs.Counting as counting
use Rattle.sp_counters.specs.Laws.{AreLoopsAt, AreAtGroup}
use Rattle.sp_pipe.specs.declared.part.PipeOp.{PipeOp}
use Rattle.sp_pipe.specs.Acts.{ActsAt}
use Rattle.sp_pipe.specs.Issues.{IssuesOne, IssuesAll}
use Rattle.sp_pipe.specs.Right.{IsAt}
use Rattle.sp_part_runs.specs.ActsCircuits.{AreGiven}
use Rattle.sp_part_runs.specs.ActsEntries.{IsOpAt, touches_memory}
use Rattle.sp_part_runs.specs.BodiesRuns.{IsOnAt}
use Rattle.sp_part_runs.specs.ControlParts.{Ends}
use Rattle.sp_node_runs.specs.Runs.{Placed, AreWithin, over_at}
use Rattle.sp_node_runs.specs.RunsTold.{all_events}
use Rattle.sp_node_runs.specs.ControlLaws.{IsStarted}
use Rattle.sp_node_runs.specs.ControlRuns.{rans}
use Rattle.sp_node_runs.specs.Bodies.{Scopes, loops_in, group_scope, DidGroups, AreTimedOps, IsPaced}
use Rattle.sp_node_runs.specs.BodiesGiven.{Nets, with_nets, values_of, AreStanding, AreGivenBy}
use Rattle.sp_node_runs.specs.BodiesTold.{ActsInTime, AreAnsweredInTime}

-- what is given by nets that stand has its words
abbrev pub GivenNetsStand : Type 0
GivenNetsStand = (s : Signals) (t : ℕ) (near : List Near) (env : Nets) (scope : Scope) (ops : List PlainOp) (ps : List PipeOp) → AreStanding s t near env scope → AreGivenBy s near env ops ps → AreGiven s t scope ops ps

-- the counters of a controller, and those around it
abbrev pub own_near : List PlainCounter → List Near → List Near
own_near counters near = map (λ (c : PlainCounter). record { number = c.number; lanes = lanes_of counters }) counters ++ near

-- where those around stand, and its own are at a group, all stand that are around its parts
abbrev pub CountersStand : Type 0
CountersStand =
    (s : Signals) (part : Counters) (nets : Counted) (t g : ℕ) (counters : List PlainCounter) (bounds : List Bounds) (near : List Near) (env : Nets) (scope : Scope) → length bounds ≡ length counters → lanes_of counters ≡ counting.lanes_of part.counters.items
    → AreAtGroup s part nets (loops_of in_lanes counters bounds) g t → g < length (group_values (loops_of in_lanes counters bounds)) → AreStanding s t near env scope
    → AreStanding s t (own_near counters near) (with_nets env counters (values_of nets.counters.items) nets.masks.items) (group_scope scope (loops_of in_lanes counters bounds) g)

module _ (core : PlainCore) (plan : PlainPlan) (delays : Delays) where
  -- up to a cycle an inner body is done where its runs are over, and its accesses act at the events of the timeline
  pub record InnerGoes (s : Signals) (d : Draft) (ps : List PipeOp) (issue done last : ℕ) (k n : ℕ) (counters : List PlainCounter) (owned : List ℕ) (ops : List PlainOp) (comb : Option ℕ) (runs : List Placed) : Type 0 where
    pub ends : IsOnAt (is_on s done) (Ends (rans core plan delays (inner counters owned ops comb) k n runs)) last
    pub acts : (i : ℕ) (op : PlainOp) (p : PipeOp) (enable : ℕ) (operands : List ℕ) → IsOpAt ops i op → touches_memory op.kind ≡ true → IsAt ps i p → ActsAt d issue ps p enable operands
        → ActsInTime s (all_events core plan delays (inner counters owned ops comb) k n runs) last (n + counters_size counters + i) op.kind enable operands

  -- the runs of the node, up to a cycle: each did its groups, one after the other, while the counters around stood
  pub record InnerRuns (s : Signals) (last : ℕ) (k n : ℕ) (counters : List PlainCounter) (owned : List ℕ) (ops : List PlainOp) (comb : Option ℕ) (near : List Near) (env : Nets) (scopes : Scopes) (runs : List Placed) : Type 0 where
    pub from : ℕ
    pub until : ℕ
    pub in_turn : AreWithin core plan delays (inner counters owned ops comb) k n from until runs
    pub did : (r : Placed) → Contains runs r → DidGroups (scopes r) counters ops r.history
    pub stand : (r : Placed) (t : ℕ) → Contains runs r → r.cycle < t → t < over_at core plan delays (inner counters owned ops comb) k n r → t ≤ last → AreStanding s t near env (scopes r)

  -- A body under counters: where it is started in the cycles of its runs, with the bounds of its loops there, and what it reads is
  -- answered with the words of the timeline, all up to a cycle.
  abbrev pub CountedInnersWork : Type 0
  CountedInnersWork =
      (s : Signals) (d : Draft) (part : Counters) (nets : Counted) (ps : List PipeOp) (issue done last : ℕ) (k n : ℕ) (counters : List PlainCounter) (owned : List ℕ) (ops : List PlainOp) (comb : Option ℕ) (near : List Near) (env : Nets) (scopes : Scopes) (runs : List Placed)
      → RunsOn s d.cells → CountsGroups s part nets
      → IssuesAll (is_on s part.start) (is_on s nets.more) (is_on s part.step) (is_on s issue) (is_on s done) (interval_of (node_plan plan k)) (latency_of (node_plan plan k))
      → IsPaced core ops (node_plan plan k) → AreTimedOps d ops ps (slice_index (times_of (node_plan plan k)))
      → AreGivenBy s (own_near counters near) (with_nets env counters (values_of nets.counters.items) nets.masks.items) ops ps → lanes_of counters ≡ counting.lanes_of part.counters.items
      → InnerRuns s last k n counters owned ops comb near env scopes runs
      → ((r : Placed) → Contains runs r → r.cycle ≤ last → AreLoopsAt s r.cycle part.counters.items (loops_in counters r.history))
      → AreAnsweredInTime s (all_events core plan delays (inner counters owned ops comb) k n runs) last (n + counters_size counters) ops ps
      → (t : ℕ) → t ≤ last → IsStarted s part.start (rans core plan delays (inner counters owned ops comb) k n runs) t → InnerGoes s d ps issue done t k n counters owned ops comb runs

  -- and one without counters, which has one group
  abbrev pub SingleInnersWork : Type 0
  SingleInnersWork =
      (s : Signals) (d : Draft) (start : ℕ) (ps : List PipeOp) (issue done last : ℕ) (k n : ℕ) (owned : List ℕ) (ops : List PlainOp) (comb : Option ℕ) (near : List Near) (env : Nets) (scopes : Scopes) (runs : List Placed)
      → RunsOn s d.cells → IssuesOne (is_on s start) (is_on s issue) (is_on s done) (latency_of (node_plan plan k))
      → IsPaced core ops (node_plan plan k) → AreTimedOps d ops ps (slice_index (times_of (node_plan plan k))) → AreGivenBy s near env ops ps
      → InnerRuns s last k n [] owned ops comb near env scopes runs
      → AreAnsweredInTime s (all_events core plan delays (inner [] owned ops comb) k n runs) last (n + counters_size []) ops ps
      → (t : ℕ) → t ≤ last → IsStarted s start (rans core plan delays (inner [] owned ops comb) k n runs) t → InnerGoes s d ps issue done t k n [] owned ops comb runs
