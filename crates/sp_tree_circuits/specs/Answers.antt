-- What is asked beside the circuit of a tree: that what its operations read is answered in time, and that its transfers are done in
-- time. Both are said by recursion over the circuit.
use Rattle.std.specs.Prelude.{ℕ, suc, ◌+◌, ◌≤◌, true, false, List, [], ◌∷◌, length}
use Rattle.std.specs.List.{Contains}
use Rattle.sp_netlist.specs.declared.parts.Child.{Child}
use Rattle.sp_netlist.specs.Draft.{Draft}
use Rattle.sp_netlist.specs.Signals.{Signals}
use Rattle.sp_gates.specs.Tested.{is_on}
use Rattle.sp_core.specs.Around.{Near}
use Rattle.sp_core.specs.History.{Taken, History, moved}
use Rattle.sp_core.specs.Numbering.{counters_size, node_count, number_count}
use Rattle.sp_core.specs.PlainCore.{PlainOp, PlainCounter, PlainSpan, single, range, PlainNode, PlainStages, inner, outer, fsm, branch, load, store, sparse, no_stage, more_stage, PlainCore}
use Rattle.sp_counters.specs.declared.part.Count.{Count}
use Rattle.sp_pipe.specs.declared.part.PipeOp.{PipeOp}
use Rattle.sp_time.specs.Beats.{slot_at}
use Rattle.sp_plan.specs.PlainPlan.{PlainPlan, node_plan}
use Rattle.sp_machine.specs.Stamps.{Stamped}
use Rattle.sp_machine.specs.Timeline.{slots_of}
use Rattle.sp_machine.specs.Transfers.{Delays}
use Rattle.sp_part_runs.specs.BodiesRuns.{IsOnAt}
use Rattle.sp_part_runs.specs.ControlParts.{Ends}
use Rattle.sp_node_runs.specs.ControlLaws.{IsStarted}
use Rattle.sp_node_runs.specs.ControlRuns.{rans}
use Rattle.sp_node_runs.specs.BodiesGiven.{Nets}
use Rattle.sp_node_runs.specs.BodiesLaws.{own_near}
use Rattle.sp_node_runs.specs.BodiesSpans.{SpanNets, one_net, two_nets, HaveSpans}
use Rattle.sp_node_runs.specs.BodiesTold.{AreAnsweredInTime}
use Rattle.sp_tree_runs.specs.BodiesScoped.{Scoped, placed, scoped_sides, scoped_bodies, scoped_stages}
use Rattle.sp_tree_circuits.specs.Parts.{BoundCircuits, SpanCircuits, Issued}
use Rattle.sp_tree_circuits.specs.Circuits.{slot_nets, Circuit, StageCircuits}

-- something holds of each list of operations of a tree, by the number of its first one and the operations of its circuit
module _ (core : PlainCore) (plan : PlainPlan) (s : Signals) (P : (number : ℕ) → List PlainOp → List PipeOp → Type 0) where
  module _ (near : List Near) (env : Nets) (draft : Draft) where
    abbrev pub EachBound : (n : ℕ) (counters : List PlainCounter) (counts : List Count) → BoundCircuits core plan s near env draft counters counts → Type 0
    EachBound n [] [] w = Unit {0}
    EachBound n (c ∷ counters) (count ∷ counts) w = P n c.from w.0.from.ps × P (n + length c.from) c.until w.0.until.ps × EachBound (n + (length c.from + length c.until)) counters counts w.1
    EachBound n [] (count ∷ counts) w = Unit {0}
    EachBound n (c ∷ counters) [] w = Unit {0}

    abbrev pub EachSpan : (n : ℕ) (spans : List PlainSpan) (nets : List SpanNets) → SpanCircuits core plan s near env draft spans nets → Type 0
    EachSpan n [] [] w = Unit {0}
    EachSpan n (single ops ∷ spans) (one_net net ∷ nets) w = P n ops w.0.ps × EachSpan (n + length ops) spans nets w.1
    EachSpan n (range a b ∷ spans) (two_nets from until ∷ nets) w = P n a w.0.ps × P (n + length a) b w.1.ps × EachSpan (n + (length a + length b)) spans nets w.2
    EachSpan n [] (net ∷ nets) w = Unit {0}
    EachSpan n (single ops ∷ spans) [] w = Unit {0}
    EachSpan n (single ops ∷ spans) (two_nets from until ∷ nets) w = Unit {0}
    EachSpan n (range a b ∷ spans) [] w = Unit {0}
    EachSpan n (range a b ∷ spans) (one_net net ∷ nets) w = Unit {0}

  -- a body without counters has no bounds
  abbrev pub EachOfIssue : (near : List Near) (env : Nets) (k n : ℕ) (counters : List PlainCounter) (ops : List PlainOp) (ps : List PipeOp) (issue : ℕ) (c : Child) → Issued core plan s near env k counters ops ps issue c → Type 0
  EachOfIssue near env k n [] ops ps issue c w = Unit {0}
  EachOfIssue near env k n (x ∷ counters) ops ps issue c w = EachBound near env w.draft n (x ∷ counters) w.part.counters.items w.bounds

  abbrev mutual
    pub EachList : (node : PlainNode) (near : List Near) (env : Nets) (k n : ℕ) (c : Child) → Circuit core plan s node near env k c → Type 0
    EachList (branch ops first second) near env k n c w =
        P n ops w.tests.ps × EachList first near env (suc k) (n + length ops) w.chosen w.one × EachList second near env (suc k + node_count first) (n + (length ops + number_count first)) w.left w.other
    EachList (fsm start state ops node after) near env k n c w =
        P n start w.begins.ps × P (n + length start) ops w.tests.ps × P (n + (length start + (length ops + number_count node))) after w.steps.ps × EachList node near env (suc k) (n + (length start + length ops)) w.body w.goes
    EachList (outer counters style owned stages) near env k n c w =
        EachBound near env w.draft n counters w.part.counters.items w.bounds
        × EachInLists stages (own_near counters near) (suc k) (n + counters_size counters) 0 (λ i. slot_nets w.nets w.rows env counters (slot_at (slots_of (node_plan plan k)) i).slot) w.child w.parts
    EachList (inner counters owned ops comb) near env k n c w = P (n + counters_size counters) ops w.ps × EachOfIssue near env k n counters ops w.ps w.issue c w.issued
    EachList (load r m spans) near env k n c w = EachSpan near env w.draft n spans w.nets w.ends
    EachList (store r m spans) near env k n c w = EachSpan near env w.draft n spans w.nets w.ends
    EachList (sparse kind r m places spans count par) near env k n c w = ⊥

    pub EachInLists : (stages : PlainStages) (near : List Near) (j n i : ℕ) (nets : (stage : ℕ) → Nets) (child : (stage : ℕ) → Child) → StageCircuits core plan s stages near j i nets child → Type 0
    EachInLists no_stage near j n i nets child w = Unit {0}
    EachInLists (more_stage first last comb node rest) near j n i nets child w =
        EachList node near (nets i) j n (child i) w.0 × EachInLists rest near (j + node_count node) (n + number_count node) (suc i) nets child w.1

-- by the events of the whole, up to a cycle: each operation of a tree that reads or takes a word is answered with it
abbrev pub Answered : (core : PlainCore) (plan : PlainPlan) (s : Signals) (events : List Stamped) (last : ℕ) (node : PlainNode) (near : List Near) (env : Nets) (k n : ℕ) (c : Child) → Circuit core plan s node near env k c → Type 0
Answered core plan s events last node near env k n c w = EachList core plan s (AreAnsweredInTime s events last) node near env k n c w

-- the spans of a run of a transfer
abbrev pub taken_in : History → List Taken
taken_in (moved ts ws) = ts
taken_in h = []

module _ (core : PlainCore) (plan : PlainPlan) (delays : Delays) (s : Signals) where
  -- something holds of each transfer of the tree, by its runs, its part and the nets of its slice
  module _ (P : PlainNode → (node n : ℕ) → List Scoped → Child → List SpanNets → Type 0) where
    abbrev mutual
      pub EachTransfer : (node : PlainNode) (near : List Near) (env : Nets) (k n : ℕ) (qs : List Scoped) (c : Child) → Circuit core plan s node near env k c → Type 0
      EachTransfer (branch ops first second) near env k n qs c w =
          EachTransfer first near env (suc k) (n + length ops) (scoped_sides core plan delays ops k true qs) w.chosen w.one
          × EachTransfer second near env (suc k + node_count first) (n + (length ops + number_count first)) (scoped_sides core plan delays ops k false qs) w.left w.other
      EachTransfer (fsm start state ops node after) near env k n qs c w =
          EachTransfer node near env (suc k) (n + (length start + length ops)) (scoped_bodies core plan delays start ops after node k n qs) w.body w.goes
      EachTransfer (outer counters style owned stages) near env k n qs c w =
          EachInStages stages (own_near counters near) (suc k) (n + counters_size counters) 0 (λ i. slot_nets w.nets w.rows env counters (slot_at (slots_of (node_plan plan k)) i).slot) (λ i. scoped_stages core plan delays counters owned stages k n i qs) w.child w.parts
      EachTransfer (inner counters owned ops comb) near env k n qs c w = Unit {0}
      EachTransfer (load r m spans) near env k n qs c w = P (load r m spans) k n qs c w.nets
      EachTransfer (store r m spans) near env k n qs c w = P (store r m spans) k n qs c w.nets
      EachTransfer (sparse kind r m places spans count par) near env k n qs c w = ⊥

      pub EachInStages : (stages : PlainStages) (near : List Near) (j n i : ℕ) (nets : (stage : ℕ) → Nets) (qs : (stage : ℕ) → List Scoped) (child : (stage : ℕ) → Child) → StageCircuits core plan s stages near j i nets child → Type 0
      EachInStages no_stage near j n i nets qs child w = Unit {0}
      EachInStages (more_stage first last comb node rest) near j n i nets qs child w =
          EachTransfer node near (nets i) j n (qs i) (child i) w.0 × EachInStages rest near (j + node_count node) (n + number_count node) (suc i) nets qs child w.1

  -- up to a cycle the nets of a slice have its ends in each cycle in which the transfer is started
  abbrev pub SlicesStand : List Scoped → List SpanNets → (t : ℕ) → Type 0
  SlicesStand qs nets t = (q : Scoped) → Contains qs q → q.run.cycle ≤ t → HaveSpans s q.run.cycle nets (taken_in q.run.history)

  -- where a transfer is started in the cycles of its runs, and the nets of its slice stand there, it is done where its runs are over
  abbrev pub MovesInTime : (last : ℕ) → PlainNode → (node n : ℕ) → List Scoped → Child → List SpanNets → Type 0
  MovesInTime last node k n qs c nets =
      (t : ℕ) → t ≤ last → IsStarted s c.start (rans core plan delays node k n (placed qs)) t → SlicesStand qs nets t → IsOnAt (is_on s c.done) (Ends (rans core plan delays node k n (placed qs))) t

  -- so does each one of the tree
  abbrev pub TransfersMove : (last : ℕ) (node : PlainNode) (near : List Near) (env : Nets) (k n : ℕ) (qs : List Scoped) (c : Child) → Circuit core plan s node near env k c → Type 0
  TransfersMove last node near env k n qs c w = EachTransfer (MovesInTime last) node near env k n qs c w
