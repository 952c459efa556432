-- What holds of each list of a tree, or of each of its transfers, gives what follows from it.
use Rattle.std.proofs.Common.{ℕ, suc, ◌+◌, true, false, List, [], ◌∷◌, length}
use Rattle.sp_netlist.specs.declared.parts.Child.{Child}
use Rattle.sp_netlist.specs.Draft.{Draft}
use Rattle.sp_netlist.specs.Signals.{Signals}
use Rattle.sp_core.specs.Around.{Near}
use Rattle.sp_core.specs.Numbering.{counters_size, node_count, number_count}
use Rattle.sp_core.specs.PlainCore.{PlainOp, PlainCounter, PlainSpan, single, range, PlainNode, PlainStages, inner, outer, fsm, branch, load, store, sparse, no_stage, more_stage, PlainCore}
use Rattle.sp_counters.specs.declared.part.Count.{Count}
use Rattle.sp_pipe.specs.declared.part.PipeOp.{PipeOp}
use Rattle.sp_plan.specs.PlainPlan.{PlainPlan, node_plan}
use Rattle.sp_time.specs.Beats.{slot_at}
use Rattle.sp_machine.specs.Timeline.{slots_of}
use Rattle.sp_machine.specs.Transfers.{Delays}
use Rattle.sp_node_runs.specs.BodiesGiven.{Nets}
use Rattle.sp_node_runs.specs.BodiesLaws.{own_near}
use Rattle.sp_node_runs.specs.BodiesSpans.{SpanNets, one_net, two_nets}
use Rattle.sp_tree_runs.specs.BodiesScoped.{Scoped, scoped_sides, scoped_bodies, scoped_stages}
use Rattle.sp_tree_circuits.specs.Parts.{BoundCircuits, SpanCircuits, Issued}
use Rattle.sp_tree_circuits.specs.Circuits.{slot_nets, Circuit, StageCircuits}
use Rattle.sp_tree_circuits.specs.Answers.{EachBound, EachSpan, EachOfIssue, EachList, EachInLists, EachTransfer, EachInStages}

module _ (core : PlainCore) (plan : PlainPlan) (s : Signals) (P Q : (number : ℕ) → List PlainOp → List PipeOp → Type 0) (step : (n : ℕ) (ops : List PlainOp) (ps : List PipeOp) → P n ops ps → Q n ops ps) where
  pub bounds_give : (near : List Near) (env : Nets) (draft : Draft) (n : ℕ) (counters : List PlainCounter) (counts : List Count) (w : BoundCircuits core plan s near env draft counters counts) → EachBound core plan s P near env draft n counters counts w → EachBound core plan s Q near env draft n counters counts w
  bounds_give near env draft n [] [] w h = tt
  bounds_give near env draft n (c ∷ counters) (count ∷ counts) w h =
      (step n c.from w.0.from.ps h.0, step (n + length c.from) c.until w.0.until.ps h.1, bounds_give near env draft (n + (length c.from + length c.until)) counters counts w.1 h.2)
  bounds_give near env draft n [] (count ∷ counts) w h = tt
  bounds_give near env draft n (c ∷ counters) [] w h = tt

  pub spans_give : (near : List Near) (env : Nets) (draft : Draft) (n : ℕ) (spans : List PlainSpan) (nets : List SpanNets) (w : SpanCircuits core plan s near env draft spans nets) → EachSpan core plan s P near env draft n spans nets w → EachSpan core plan s Q near env draft n spans nets w
  spans_give near env draft n [] [] w h = tt
  spans_give near env draft n (single ops ∷ spans) (one_net net ∷ nets) w h = (step n ops w.0.ps h.0, spans_give near env draft (n + length ops) spans nets w.1 h.1)
  spans_give near env draft n (range a b ∷ spans) (two_nets from until ∷ nets) w h = (step n a w.0.ps h.0, step (n + length a) b w.1.ps h.1, spans_give near env draft (n + (length a + length b)) spans nets w.2 h.2)
  spans_give near env draft n [] (net ∷ nets) w h = tt
  spans_give near env draft n (single ops ∷ spans) [] w h = tt
  spans_give near env draft n (single ops ∷ spans) (two_nets from until ∷ nets) w h = tt
  spans_give near env draft n (range a b ∷ spans) [] w h = tt
  spans_give near env draft n (range a b ∷ spans) (one_net net ∷ nets) w h = tt

  issue_gives : (near : List Near) (env : Nets) (k n : ℕ) (counters : List PlainCounter) (ops : List PlainOp) (ps : List PipeOp) (issue : ℕ) (c : Child) (w : Issued core plan s near env k counters ops ps issue c)
      → EachOfIssue core plan s P near env k n counters ops ps issue c w → EachOfIssue core plan s Q near env k n counters ops ps issue c w
  issue_gives near env k n [] ops ps issue c w h = tt
  issue_gives near env k n (x ∷ counters) ops ps issue c w h = bounds_give near env w.draft n (x ∷ counters) w.part.counters.items w.bounds h

  mutual
    pub lists_give : (node : PlainNode) (near : List Near) (env : Nets) (k n : ℕ) (c : Child) (w : Circuit core plan s node near env k c) → EachList core plan s P node near env k n c w → EachList core plan s Q node near env k n c w
    lists_give (branch ops first second) near env k n c w h = (
      step n ops w.tests.ps h.0,
      lists_give first near env (suc k) (n + length ops) w.chosen w.one h.1,
      lists_give second near env (suc k + node_count first) (n + (length ops + number_count first)) w.left w.other h.2,
    )
    lists_give (fsm start state ops node after) near env k n c w h = (
      step n start w.begins.ps h.0,
      step (n + length start) ops w.tests.ps h.1,
      step (n + (length start + (length ops + number_count node))) after w.steps.ps h.2,
      lists_give node near env (suc k) (n + (length start + length ops)) w.body w.goes h.3,
    )
    lists_give (outer counters style owned stages) near env k n c w h = (
      bounds_give near env w.draft n counters w.part.counters.items w.bounds h.0,
      stages_give stages (own_near counters near) (suc k) (n + counters_size counters) 0 (λ i. slot_nets w.nets w.rows env counters (slot_at (slots_of (node_plan plan k)) i).slot) w.child w.parts h.1,
    )
    lists_give (inner counters owned ops comb) near env k n c w h = (step (n + counters_size counters) ops w.ps h.0, issue_gives near env k n counters ops w.ps w.issue c w.issued h.1)
    lists_give (load r m spans) near env k n c w h = spans_give near env w.draft n spans w.nets w.ends h
    lists_give (store r m spans) near env k n c w h = spans_give near env w.draft n spans w.nets w.ends h
    lists_give (sparse kind r m places spans count par) near env k n c w h = elim h [ ]

    pub stages_give : (stages : PlainStages) (near : List Near) (j n i : ℕ) (nets : (stage : ℕ) → Nets) (child : (stage : ℕ) → Child) (w : StageCircuits core plan s stages near j i nets child)
        → EachInLists core plan s P stages near j n i nets child w → EachInLists core plan s Q stages near j n i nets child w
    stages_give no_stage near j n i nets child w h = tt
    stages_give (more_stage first last comb node rest) near j n i nets child w h =
        (lists_give node near (nets i) j n (child i) w.0 h.0, stages_give rest near (j + node_count node) (n + number_count node) (suc i) nets child w.1 h.1)

module _ (core : PlainCore) (plan : PlainPlan) (delays : Delays) (s : Signals) (P Q : PlainNode → (node n : ℕ) → List Scoped → Child → List SpanNets → Type 0) (step : (node : PlainNode) (k n : ℕ) (qs : List Scoped) (c : Child) (nets : List SpanNets) → P node k n qs c nets → Q node k n qs c nets) where
  mutual
    pub transfers_give : (node : PlainNode) (near : List Near) (env : Nets) (k n : ℕ) (qs : List Scoped) (c : Child) (w : Circuit core plan s node near env k c) → EachTransfer core plan delays s P node near env k n qs c w → EachTransfer core plan delays s Q node near env k n qs c w
    transfers_give (branch ops first second) near env k n qs c w h = (
      transfers_give first near env (suc k) (n + length ops) (scoped_sides core plan delays ops k true qs) w.chosen w.one h.0,
      transfers_give second near env (suc k + node_count first) (n + (length ops + number_count first)) (scoped_sides core plan delays ops k false qs) w.left w.other h.1,
    )
    transfers_give (fsm start state ops node after) near env k n qs c w h = transfers_give node near env (suc k) (n + (length start + length ops)) (scoped_bodies core plan delays start ops after node k n qs) w.body w.goes h
    transfers_give (outer counters style owned stages) near env k n qs c w h =
        transfers_in_stages stages (own_near counters near) (suc k) (n + counters_size counters) 0 (λ i. slot_nets w.nets w.rows env counters (slot_at (slots_of (node_plan plan k)) i).slot) (λ i. scoped_stages core plan delays counters owned stages k n i qs) w.child w.parts h
    transfers_give (inner counters owned ops comb) near env k n qs c w h = tt
    transfers_give (load r m spans) near env k n qs c w h = step (load r m spans) k n qs c w.nets h
    transfers_give (store r m spans) near env k n qs c w h = step (store r m spans) k n qs c w.nets h
    transfers_give (sparse kind r m places spans count par) near env k n qs c w h = elim h [ ]

    pub transfers_in_stages : (stages : PlainStages) (near : List Near) (j n i : ℕ) (nets : (stage : ℕ) → Nets) (qs : (stage : ℕ) → List Scoped) (child : (stage : ℕ) → Child) (w : StageCircuits core plan s stages near j i nets child)
        → EachInStages core plan delays s P stages near j n i nets qs child w → EachInStages core plan delays s Q stages near j n i nets qs child w
    transfers_in_stages no_stage near j n i nets qs child w h = tt
    transfers_in_stages (more_stage first last comb node rest) near j n i nets qs child w h =
        (transfers_give node near (nets i) j n (qs i) (child i) w.0 h.0, transfers_in_stages rest near (j + node_count node) (n + number_count node) (suc i) nets qs child w.1 h.1)
