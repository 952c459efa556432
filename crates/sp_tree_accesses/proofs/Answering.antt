-- What holds of all lists that a tree's circuit hands on holds of each list of the circuit.
use Rattle.std.proofs.Common.{◌≡◌, ℕ, suc, ◌+◌, List, [], ◌∷◌, ◌++◌, length, append_assoc, subst}
use Rattle.std.specs.List.{AllZip}
use Rattle.sp_netlist.specs.declared.parts.Child.{Child}
use Rattle.sp_netlist.specs.Draft.{Draft}
use Rattle.sp_netlist.specs.Signals.{Signals}
use Rattle.sp_core.specs.Around.{Near}
use Rattle.sp_core.specs.Numbering.{counters_size, node_count, number_count}
use Rattle.sp_core.specs.PlainCore.{PlainOp, PlainCounter, PlainSpan, single, range, PlainNode, PlainStages, inner, outer, fsm, branch, load, store, sparse, no_stage, more_stage, PlainCore}
use Rattle.sp_counters.specs.declared.part.Count.{Count}
use Rattle.sp_pipe.specs.declared.part.PipeOp.{PipeOp}
use Rattle.sp_plan.specs.PlainPlan.{PlainPlan, node_plan}
use Rattle.sp_time.specs.Beats.{slot_at}
use Rattle.sp_machine.specs.Timeline.{slots_of}
use Rattle.sp_node_runs.specs.BodiesGiven.{Nets}
use Rattle.sp_node_runs.specs.BodiesLaws.{own_near}
use Rattle.sp_node_runs.specs.BodiesSpans.{SpanNets, one_net, two_nets}
use Rattle.sp_op_nets.specs.declared.acted.ActedList.{ActedList}
use Rattle.sp_op_nets.specs.Acted.{IsActed}
use Rattle.sp_tree_circuits.specs.Answers.{EachBound, EachSpan, EachOfIssue, EachList, EachInLists}
use Rattle.sp_tree_circuits.specs.Circuits.{slot_nets, Circuit, StageCircuits}
use Rattle.sp_tree_circuits.specs.Parts.{BoundCircuits, SpanCircuits, Issued}
use Rattle.sp_bound_nets.specs.Bounds.{BoundsActed}
use Rattle.sp_bound_nets.specs.Spans.{SpansActed}
use Rattle.sp_inner_circuits.specs.Inner.{BoundsOf}
use Rattle.sp_tree_handed.specs.Lists.{NumberedOps, numbered, bounds_in, spans_in, lists_in, lists_in_stages}
use Rattle.sp_tree_nets.specs.Handed.{HandsOne, AreHanded, StagesHanded}

regroup : {A B : Type 0} (R : A → B → Type 0) (xs ys zs : List A) (us vs ws : List B) → AllZip R ((xs ++ ys) ++ zs) ((us ++ vs) ++ ws) → AllZip R (xs ++ (ys ++ zs)) (us ++ (vs ++ ws))
regroup R xs ys zs us vs ws h = subst (λ ls. AllZip R ls (us ++ (vs ++ ws))) (append_assoc xs ys zs) (subst (AllZip R ((xs ++ ys) ++ zs)) (append_assoc us vs ws) h)

module _ (core : PlainCore) (plan : PlainPlan) (s : Signals) (P : (number : ℕ) → List PlainOp → List PipeOp → Type 0) where
  abbrev pub Holds : NumberedOps → ActedList → Type 0
  Holds list a = P list.number list.ops a.ops.items

  acted_holds : (d : Draft) (issue n : ℕ) (ops : List PlainOp) (ps : List PipeOp) (a : ActedList) → IsActed d issue n ps a → P n ops a.ops.items → P n ops ps
  acted_holds d issue n ops ps a h p = subst (P n ops) h.ops p

  none_left : (lists : List NumberedOps) (acted rest : List ActedList) → acted ≡ [] → AllZip Holds lists (acted ++ rest) → AllZip Holds lists rest
  none_left lists acted rest e h = subst (λ us. AllZip Holds lists (us ++ rest)) e h

  bounds_hold : (d : Draft) (near : List Near) (env : Nets) (n : ℕ) (counters : List PlainCounter) (counts : List Count) (w : BoundCircuits core plan s near env d counters counts) (acted : List ActedList) → BoundsActed core plan s near env d n counters counts w acted
      → (lists : List NumberedOps) (rest : List ActedList) → AllZip Holds (bounds_in counters n ++ lists) (acted ++ rest) → EachBound core plan s P near env d n counters counts w × AllZip Holds lists rest
  bounds_hold d near env n [] [] w acted h lists rest z = (tt, none_left lists acted rest h z)
  bounds_hold d near env n [] (count ∷ counts) w acted h lists rest z = absurd h
  bounds_hold d near env n (c ∷ counters) [] w acted h lists rest z = absurd h
  bounds_hold d near env n (c ∷ counters) (count ∷ counts) w [] h lists rest z = absurd h
  bounds_hold d near env n (c ∷ counters) (count ∷ counts) w (a ∷ []) h lists rest z = absurd h
  bounds_hold d near env n (c ∷ counters) (count ∷ counts) w (a ∷ b ∷ acted) h lists rest z =
      let more = bounds_hold d near env (n + (length c.from + length c.until)) counters counts w.1 acted h.2 lists rest z.1.1 in
      ((acted_holds d h.0.issue n c.from w.0.from.ps a h.0.acted z.0, acted_holds d h.1.issue (n + length c.from) c.until w.0.until.ps b h.1.acted z.1.0, more.0), more.1)

  spans_hold : (d : Draft) (near : List Near) (env : Nets) (n : ℕ) (spans : List PlainSpan) (nets : List SpanNets) (w : SpanCircuits core plan s near env d spans nets) (acted : List ActedList) → SpansActed core plan s near env d n spans nets w acted
      → (lists : List NumberedOps) (rest : List ActedList) → AllZip Holds (spans_in spans n ++ lists) (acted ++ rest) → EachSpan core plan s P near env d n spans nets w × AllZip Holds lists rest
  spans_hold d near env n [] [] w acted h lists rest z = (tt, none_left lists acted rest h z)
  spans_hold d near env n [] (net ∷ nets) w acted h lists rest z = absurd h
  spans_hold d near env n (single ops ∷ spans) [] w acted h lists rest z = absurd h
  spans_hold d near env n (single ops ∷ spans) (two_nets from until ∷ nets) w acted h lists rest z = absurd h
  spans_hold d near env n (single ops ∷ spans) (one_net net ∷ nets) w [] h lists rest z = absurd h
  spans_hold d near env n (single ops ∷ spans) (one_net net ∷ nets) w (a ∷ acted) h lists rest z =
      let more = spans_hold d near env (n + length ops) spans nets w.1 acted h.1 lists rest z.1 in
      ((acted_holds d h.0.issue n ops w.0.ps a h.0.acted z.0, more.0), more.1)
  spans_hold d near env n (range xs ys ∷ spans) [] w acted h lists rest z = absurd h
  spans_hold d near env n (range xs ys ∷ spans) (one_net net ∷ nets) w acted h lists rest z = absurd h
  spans_hold d near env n (range xs ys ∷ spans) (two_nets from until ∷ nets) w [] h lists rest z = absurd h
  spans_hold d near env n (range xs ys ∷ spans) (two_nets from until ∷ nets) w (a ∷ []) h lists rest z = absurd h
  spans_hold d near env n (range xs ys ∷ spans) (two_nets from until ∷ nets) w (a ∷ b ∷ acted) h lists rest z =
      let more = spans_hold d near env (n + (length xs + length ys)) spans nets w.2 acted h.2 lists rest z.1.1 in
      ((acted_holds d h.0.issue n xs w.0.ps a h.0.acted z.0, acted_holds d h.1.issue (n + length xs) ys w.1.ps b h.1.acted z.1.0, more.0), more.1)

  issue_holds : (near : List Near) (env : Nets) (k n : ℕ) (counters : List PlainCounter) (ops : List PlainOp) (ps : List PipeOp) (issue : ℕ) (c : Child) (w : Issued core plan s near env k counters ops ps issue c) (acted : List ActedList)
      → BoundsOf core plan s near env k n counters ops ps issue c w acted → (lists : List NumberedOps) (rest : List ActedList) → AllZip Holds (bounds_in counters n ++ lists) (acted ++ rest)
      → EachOfIssue core plan s P near env k n counters ops ps issue c w × AllZip Holds lists rest
  issue_holds near env k n [] ops ps issue c w acted h lists rest z = (tt, none_left lists acted rest h z)
  issue_holds near env k n (x ∷ counters) ops ps issue c w acted h lists rest z = bounds_hold w.draft near env n (x ∷ counters) w.part.counters.items w.bounds acted h lists rest z

  one_holds : (d : Draft) (issue n : ℕ) (ops : List PlainOp) (ps : List PipeOp) (acted : List ActedList) → HandsOne (IsActed d issue n ps) acted → (lists : List NumberedOps) (rest : List ActedList) → AllZip Holds (numbered n ops ∷ lists) (acted ++ rest)
      → P n ops ps × AllZip Holds lists rest
  one_holds d issue n ops ps [] h lists rest z = absurd h
  one_holds d issue n ops ps (a ∷ []) h lists rest z = (acted_holds d issue n ops ps a h z.0, z.1)
  one_holds d issue n ops ps (a ∷ b ∷ acted) h lists rest z = absurd h

  -- of all lists, and some more behind them
  mutual
    pub lists_hold : (node : PlainNode) (near : List Near) (env : Nets) (k n : ℕ) (c : Child) (w : Circuit core plan s node near env k c) (acted : List ActedList) → AreHanded core plan s node near env k n c w acted
        → (lists : List NumberedOps) (rest : List ActedList) → AllZip Holds (lists_in node n ++ lists) (acted ++ rest) → EachList core plan s P node near env k n c w × AllZip Holds lists rest
    lists_hold (branch ops first second) near env k n c w acted h lists rest z =
        let own = subst (λ us. AllZip Holds (lists_in (branch ops first second) n ++ lists) (us ++ rest)) h.all z in
        let both = regroup Holds (lists_in first (n + length ops)) (lists_in second (n + (length ops + number_count first))) lists h.one h.other rest own.1 in
        let one = lists_hold first near env (suc k) (n + length ops) w.chosen w.one h.one h.firsts (lists_in second (n + (length ops + number_count first)) ++ lists) (h.other ++ rest) both in
        let other = lists_hold second near env (suc k + node_count first) (n + (length ops + number_count first)) w.left w.other h.other h.seconds lists rest one.1 in
        ((acted_holds w.tests.draft w.tests.issue n ops w.tests.ps h.test h.tests own.0, one.0, other.0), other.1)
    lists_hold (fsm start state ops node after) near env k n c w acted h lists rest z =
        let own = subst (λ us. AllZip Holds (lists_in (fsm start state ops node after) n ++ lists) (us ++ rest)) h.all z in
        let both = regroup Holds (lists_in node (n + (length start + length ops))) (numbered (n + (length start + (length ops + number_count node))) after ∷ []) lists h.body (h.next ∷ []) rest own.1.1 in
        let work = lists_hold node near env (suc k) (n + (length start + length ops)) w.body w.goes h.body h.goes (numbered (n + (length start + (length ops + number_count node))) after ∷ lists) (h.next ∷ rest) both in (
          (
            acted_holds w.begins.draft w.begins.issue n start w.begins.ps h.first h.begins own.0,
            acted_holds w.tests.draft w.tests.issue (n + length start) ops w.tests.ps h.test h.tests own.1.0,
            acted_holds w.steps.draft w.steps.issue (n + (length start + (length ops + number_count node))) after w.steps.ps h.next h.steps work.1.0,
            work.0,
          ),
          work.1.1,
        )
    lists_hold (outer counters style owned stages) near env k n c w acted h lists rest z =
        let own = subst (λ us. AllZip Holds (lists_in (outer counters style owned stages) n ++ lists) (us ++ rest)) h.all z in
        let both = regroup Holds (bounds_in counters n) (lists_in_stages stages (n + counters_size counters)) lists h.bounds h.inside rest own in
        let bound = bounds_hold w.draft near env n counters w.part.counters.items w.bounds h.bounds h.bound (lists_in_stages stages (n + counters_size counters) ++ lists) (h.inside ++ rest) both in
        let inside = stages_hold stages (own_near counters near) (suc k) (n + counters_size counters) 0 (λ i. slot_nets w.nets w.rows env counters (slot_at (slots_of (node_plan plan k)) i).slot) w.child w.parts h.inside h.stand lists rest bound.1 in
        ((bound.0, inside.0), inside.1)
    lists_hold (inner counters owned ops comb) near env k n c w acted h lists rest z =
        let own = subst (λ us. AllZip Holds (lists_in (inner counters owned ops comb) n ++ lists) (us ++ rest)) h.all z in
        let both = regroup Holds (bounds_in counters n) (numbered (n + counters_size counters) ops ∷ []) lists h.bounds h.inside rest own in
        let bound = issue_holds near env k n counters ops w.ps w.issue c w.issued h.bounds h.bound (numbered (n + counters_size counters) ops ∷ lists) (h.inside ++ rest) both in
        let inside = one_holds w.draft w.issue (n + counters_size counters) ops w.ps h.inside h.stand lists rest bound.1 in
        ((inside.0, bound.0), inside.1)
    lists_hold (load r m spans) near env k n c w acted h lists rest z = spans_hold w.draft near env n spans w.nets w.ends acted h lists rest z
    lists_hold (store r m spans) near env k n c w acted h lists rest z = spans_hold w.draft near env n spans w.nets w.ends acted h lists rest z
    lists_hold (sparse kind r m places spans count par) near env k n c w acted h lists rest z = absurd h

    stages_hold : (stages : PlainStages) (near : List Near) (j n i : ℕ) (nets : (stage : ℕ) → Nets) (child : (stage : ℕ) → Child) (w : StageCircuits core plan s stages near j i nets child) (acted : List ActedList)
        → StagesHanded core plan s stages near j n i nets child w acted → (lists : List NumberedOps) (rest : List ActedList) → AllZip Holds (lists_in_stages stages n ++ lists) (acted ++ rest)
        → EachInLists core plan s P stages near j n i nets child w × AllZip Holds lists rest
    stages_hold no_stage near j n i nets child w acted h lists rest z = (tt, none_left lists acted rest h z)
    stages_hold (more_stage first last comb node more) near j n i nets child w acted h lists rest z =
        let own = subst (λ us. AllZip Holds (lists_in_stages (more_stage first last comb node more) n ++ lists) (us ++ rest)) h.all z in
        let both = regroup Holds (lists_in node n) (lists_in_stages more (n + number_count node)) lists h.one h.rest rest own in
        let one = lists_hold node near (nets i) j n (child i) w.0 h.one h.first (lists_in_stages more (n + number_count node) ++ lists) (h.rest ++ rest) both in
        let others = stages_hold more near (j + node_count node) (n + number_count node) (suc i) nets child w.1 h.rest h.others lists rest one.1 in
        ((one.0, others.0), others.1)
