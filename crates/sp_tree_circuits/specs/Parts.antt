-- Circuits of parts that have no parts of their own, as equations over all cycles: what emitters promise, whatever runs there are and
-- whatever is read.
use Rattle.std.specs.Prelude.{◌≡◌, ℕ, suc, ◌*◌, ◌≤◌, IsTrue, List, [], ◌∷◌, length, slice_index}
use Rattle.sp_netlist.specs.declared.parts.Child.{Child}
use Rattle.sp_netlist.specs.Draft.{Draft}
use Rattle.sp_netlist.specs.Signals.{Signals}
use Rattle.sp_gates.specs.Runs.{RunsOn}
use Rattle.sp_gates.specs.Tested.{is_on}
use Rattle.sp_core.specs.Around.{Near, lanes_of}
use Rattle.sp_core.specs.Latency.{latency_of_all}
use Rattle.sp_core.specs.PlainCore.{PlainOp, PlainCounter, PlainSpan, single, range, PlainCore}
use Rattle.sp_counters.specs.declared.part.Count.{Count}
use Rattle.sp_counters.specs.declared.part.Counters.{Counters}
use Rattle.sp_counters.specs.declared.part.Counted.{Counted}
use Rattle.sp_counters.specs.Counting.{CountsGroups}
use Rattle.sp_counters.specs.Counting as counting
use Rattle.sp_pipe.specs.declared.part.PipeOp.{PipeOp}
use Rattle.sp_pipe.specs.Acts.{HasWord}
use Rattle.sp_pipe.specs.Issues.{IssuesOne, IssuesAll}
use Rattle.sp_pipe.specs.Right.{IsAt}
use Rattle.sp_pipe.specs.Values.{gives_word, time_of}
use Rattle.sp_part_runs.specs.ActsCircuits.{answer_of}
use Rattle.sp_plan.specs.PlainPlan.{PlainPlan, node_plan}
use Rattle.sp_machine.specs.Timeline.{times_of, interval_of, latency_of}
use Rattle.sp_node_runs.specs.Bodies.{AreTimedOps, IsPaced}
use Rattle.sp_node_runs.specs.BodiesGiven.{Nets, with_nets, values_of, AreGivenBy}
use Rattle.sp_node_runs.specs.BodiesLaws.{own_near}
use Rattle.sp_node_runs.specs.BodiesLists.{turn_time}
use Rattle.sp_node_runs.specs.BodiesSpans.{SpanNets, one_net, two_nets}

module _ (core : PlainCore) (plan : PlainPlan) (s : Signals) (near : List Near) (env : Nets) where
  -- the net of the word of operations that all stand in the cycle itself, as those of a bound: what they read they read directly
  pub record DirectNet (draft : Draft) (ops : List PlainOp) (net : ℕ) : Type 0 where
    pub ps : List PipeOp
    pub timed : AreTimedOps draft ops ps (λ k. 0)
    pub given : AreGivenBy s near env ops ps
    pub directly : (k : ℕ) (p : PipeOp) → IsAt ps k p → answer_of p.act ≡ 0
    pub place : ℕ
    pub is_last : suc place ≡ length ops
    pub gives : (p : PipeOp) → IsAt ps place p → IsTrue (gives_word p.act)
    pub word : HasWord draft net 0 ps place

  -- a counter of a circuit has nets for the bounds of one of the core, and goes on as that does
  pub record BoundCircuit (draft : Draft) (c : PlainCounter) (count : Count) : Type 0 where
    pub from : DirectNet draft c.from count.from
    pub until : DirectNet draft c.until count.until
    pub by : c.by ≡ count.by
    pub par : c.par ≡ count.par
    pub goes_on : 1 ≤ c.by * c.par

  abbrev pub BoundCircuits : Draft → List PlainCounter → List Count → Type 0
  BoundCircuits d [] [] = Unit {0}
  BoundCircuits d (c ∷ counters) (count ∷ counts) = BoundCircuit d c count × BoundCircuits d counters counts
  BoundCircuits d [] (count ∷ counts) = ⊥
  BoundCircuits d (c ∷ counters) [] = ⊥

  -- the nets of the ends of a slice
  abbrev pub SpanCircuits : Draft → List PlainSpan → List SpanNets → Type 0
  SpanCircuits d [] [] = Unit {0}
  SpanCircuits d (single ops ∷ spans) (one_net net ∷ nets) = DirectNet d ops net × SpanCircuits d spans nets
  SpanCircuits d (range a b ∷ spans) (two_nets from until ∷ nets) = DirectNet d a from × DirectNet d b until × SpanCircuits d spans nets
  SpanCircuits d _ _ = ⊥

  pub record SliceCircuit (spans : List PlainSpan) : Type 0 where
    pub draft : Draft
    pub runs_on : RunsOn s draft.cells
    pub nets : List SpanNets
    pub ends : SpanCircuits draft spans nets

  -- a list of operations that are done one after the other in the cycles after its start; a net has its last word where it is over
  pub record ListCircuit (ops : List PlainOp) (c : Child) (word : ℕ) : Type 0 where
    pub draft : Draft
    pub ps : List PipeOp
    pub issue : ℕ
    pub runs_on : RunsOn s draft.cells
    pub issues : IssuesOne (is_on s c.start) (is_on s issue) (is_on s c.done) (latency_of_all core ops)
    pub timed : AreTimedOps draft ops ps (turn_time core ops)
    pub given : AreGivenBy s near env ops ps
    pub place : ℕ
    pub is_last : suc place ≡ length ops
    pub gives : (p : PipeOp) → IsAt ps place p → IsTrue (gives_word p.act)
    pub in_time : (p : PipeOp) → IsAt ps place p → time_of p.act p.mask p.time ≤ latency_of_all core ops
    pub has_word : HasWord draft word (latency_of_all core ops) ps place

  -- what issues the groups of a body, by the number of its node: counters of its own, started with it, or its start alone
  pub record IssuesGroups (k : ℕ) (counters : List PlainCounter) (ops : List PlainOp) (ps : List PipeOp) (issue : ℕ) (c : Child) : Type 0 where
    pub part : Counters
    pub nets : Counted
    pub start : part.start ≡ c.start
    pub counts : CountsGroups s part nets
    pub issues : IssuesAll (is_on s part.start) (is_on s nets.more) (is_on s part.step) (is_on s issue) (is_on s c.done) (interval_of (node_plan plan k)) (latency_of (node_plan plan k))
    pub lanes : lanes_of counters ≡ counting.lanes_of part.counters.items
    pub given : AreGivenBy s (own_near counters near) (with_nets env counters (values_of nets.counters.items) nets.masks.items) ops ps
    pub draft : Draft
    pub runs_on : RunsOn s draft.cells
    pub bounds : BoundCircuits draft counters part.counters.items

  pub record IssuesGroup (k : ℕ) (ops : List PlainOp) (ps : List PipeOp) (issue : ℕ) (c : Child) : Type 0 where
    pub issues : IssuesOne (is_on s c.start) (is_on s issue) (is_on s c.done) (latency_of (node_plan plan k))
    pub given : AreGivenBy s near env ops ps

  abbrev pub Issued : (k : ℕ) → List PlainCounter → List PlainOp → List PipeOp → (issue : ℕ) → Child → Type 0
  Issued k [] ops ps issue c = IssuesGroup k ops ps issue c
  Issued k (x ∷ counters) ops ps issue c = IssuesGroups k (x ∷ counters) ops ps issue c

  -- an inner body
  pub record InnerCircuit (k : ℕ) (counters : List PlainCounter) (ops : List PlainOp) (c : Child) : Type 0 where
    pub draft : Draft
    pub ps : List PipeOp
    pub issue : ℕ
    pub runs_on : RunsOn s draft.cells
    pub paced : IsPaced core ops (node_plan plan k)
    pub timed : AreTimedOps draft ops ps (slice_index (times_of (node_plan plan k)))
    pub issued : Issued k counters ops ps issue c
