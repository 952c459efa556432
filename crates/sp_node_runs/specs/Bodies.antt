-- The runs of an inner body of a core as those of its circuit.
use Rattle.std.specs.Prelude.{◌≡◌, ℕ, ◌≤◌, true, List, [], length, slice_index_or, Some}
use Rattle.sp_netlist.specs.Draft.{Draft}
use Rattle.sp_core.specs.History.{Entry, Bounds, History, inner_ran}
use Rattle.sp_core.specs.Latency.{latency_of_all}
use Rattle.sp_core.specs.PlainCore.{PlainOp, PlainCounter, PlainCore}
use Rattle.sp_core.specs.Scope.{Loop, Scope, in_lanes, loops_of, group_values, in_group}
use Rattle.sp_plan.specs.PlainPlan.{PlainNodePlan}
use Rattle.sp_machine.specs.Timeline.{interval_of, latency_of}
use Rattle.sp_pipe.specs.declared.part.PipeOp.{PipeOp}
use Rattle.sp_pipe.specs.Right.{IsAt, OpsFit}
use Rattle.sp_part_runs.specs.ActsCircuits.{AreOpsOf}
use Rattle.sp_part_runs.specs.ActsEntries.{IsOpAt, touches_memory}
use Rattle.sp_part_runs.specs.BodiesActing.{BodyRun}
use Rattle.sp_part_runs.specs.EntriesLaws.{GroupsDone}
use Rattle.sp_node_runs.specs.Runs.{Placed}

-- the counters around each run
abbrev pub Scopes : Type 0
Scopes = Placed → Scope

-- the loops of a run, and what its operations did in each group
abbrev pub loops_in : List PlainCounter → History → List Loop
loops_in counters (inner_ran bs counts groups) = loops_of in_lanes counters bs
loops_in counters h = []

abbrev pub groups_in : History → List (List Entry)
groups_in (inner_ran bs counts groups) = groups
groups_in h = []

abbrev pub group_scope : Scope → List Loop → (group : ℕ) → Scope
group_scope scope loops g = in_group scope loops (slice_index_or (group_values loops) g [])

abbrev pub body_run : Scopes → List PlainCounter → Placed → BodyRun
body_run scopes counters r = record { cycle = r.cycle; scopes = λ g. group_scope (scopes r) (loops_in counters r.history) g; groups = groups_in r.history }

-- a run in which each group did what the operations do there
pub record DidGroups (scope : Scope) (counters : List PlainCounter) (ops : List PlainOp) (h : History) : Type 0 where
  pub bounds : List Bounds
  pub counts : List ℕ
  pub groups : List (List Entry)
  pub is : h ≡ inner_ran bounds counts groups
  pub each : length bounds ≡ length counters
  pub done : GroupsDone scope in_lanes counters ops bounds groups

-- each access names a memory
abbrev pub HaveMemories : List PlainOp → Type 0
HaveMemories ops = (k : ℕ) (op : PlainOp) → IsOpAt ops k op → touches_memory op.kind ≡ true → (m : ℕ) × (op.mem ≡ Some m)

-- operations as those of a circuit that fits a draft, each at a time
pub record AreTimedOps (d : Draft) (ops : List PlainOp) (ps : List PipeOp) (time : ℕ → ℕ) : Type 0 where
  pub ops_of : AreOpsOf ops ps
  pub fits : OpsFit d ps
  pub times : (k : ℕ) (p : PipeOp) → IsAt ps k p → p.time ≡ time k
  pub memories : HaveMemories ops

-- the plan of an inner body: one that is over at once has no operation that takes time, and groups of any other are apart
pub record IsPaced (core : PlainCore) (ops : List PlainOp) (p : PlainNodePlan) : Type 0 where
  pub at_once : latency_of p ≡ 0 → latency_of_all core ops ≡ 0
  pub interval : 1 ≤ interval_of p
