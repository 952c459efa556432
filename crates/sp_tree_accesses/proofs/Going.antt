-- The lists that a tree's circuit hands on act in time, or stand at once.
use Rattle.std.proofs.Common.{◌≡◌, ℕ, suc, ◌+◌, ◌⊎◌, inl, inr, true, false, List, [], ◌∷◌, ◌++◌, length, refl, sym, subst}
use Rattle.std.specs.List.{AllZip}
use Rattle.sp_netlist.specs.declared.parts.Child.{Child}
use Rattle.sp_netlist.specs.Draft.{Draft}
use Rattle.sp_netlist.specs.Signals.{Signals}
use Rattle.sp_core.specs.Around.{Near}
use Rattle.sp_core.specs.Numbering.{counters_size, node_count, number_count}
use Rattle.sp_core.specs.PlainCore.{PlainOp, PlainCounter, PlainSpan, single, range, PlainNode, PlainStages, inner, outer, fsm, branch, load, store, sparse, no_stage, more_stage, PlainCore}
use Rattle.sp_counters.specs.declared.part.Count.{Count}
use Rattle.sp_pipe.specs.declared.part.PipeOp.{PipeOp}
use Rattle.sp_pipe.specs.Acts.{AreActs}
use Rattle.sp_plan.specs.PlainPlan.{PlainPlan, node_plan}
use Rattle.sp_time.specs.Beats.{slot_at}
use Rattle.sp_machine.specs.Stamps.{Stamped}
use Rattle.sp_machine.specs.Timeline.{slots_of}
use Rattle.sp_machine.specs.Transfers.{Delays}
use Rattle.sp_node_runs.specs.BodiesGiven.{Nets}
use Rattle.sp_node_runs.specs.BodiesLaws.{own_near}
use Rattle.sp_node_runs.specs.BodiesSpans.{SpanNets, one_net, two_nets}
use Rattle.sp_tree_runs.specs.BodiesScoped.{Scoped, scoped_sides, scoped_bodies, scoped_stages}
use Rattle.sp_op_nets.specs.declared.acted.ActedList.{ActedList}
use Rattle.sp_op_nets.specs.Acted.{IsActed}
use Rattle.sp_tree_circuits.specs.Acts.{AccessesAct, Acts, StagesAct}
use Rattle.sp_tree_circuits.specs.Circuits.{slot_nets, Circuit, StageCircuits}
use Rattle.sp_tree_circuits.specs.Parts.{BoundCircuits, SpanCircuits, Issued}
use Rattle.sp_bound_nets.specs.Bounds.{BoundsActed}
use Rattle.sp_bound_nets.specs.Spans.{SpansActed}
use Rattle.sp_inner_circuits.specs.Inner.{BoundsOf}
use Rattle.sp_tree_handed.specs.Lists.{NumberedOps, numbered, bounds_in, spans_in, lists_in, lists_in_stages}
use Rattle.sp_tree_nets.specs.Handed.{HandsOne, AreHanded, StagesHanded}

pub zip_append : {A B : Type 0} (R : A → B → Type 0) (xs ys : List A) (us vs : List B) → AllZip R xs us → AllZip R ys vs → AllZip R (xs ++ ys) (us ++ vs)
zip_append R [] ys [] vs h k = k
zip_append R [] ys (u ∷ us) vs h k = absurd h
zip_append R (x ∷ xs) ys [] vs h k = absurd h
zip_append R (x ∷ xs) ys (u ∷ us) vs h k = (h.0, zip_append R xs ys us vs h.1 k)

module _ (core : PlainCore) (plan : PlainPlan) (delays : Delays) (s : Signals) (events : List Stamped) (t : ℕ) where
  -- each access of a list acts at the events of its number
  pub record ActsSo (list : NumberedOps) (a : ActedList) : Type 0 where
    pub draft : Draft
    pub issue : ℕ
    pub nets : AreActs draft issue a.ops.items a.ops.items a.nets.items
    pub acts : AccessesAct core plan delays s events t draft a.ops.items issue list.number list.ops

  abbrev pub Goes : NumberedOps → ActedList → Type 0
  Goes list a = (list.at_once ≡ true) ⊎ ActsSo list a

  goes_in_turn : (d : Draft) (issue n : ℕ) (ops : List PlainOp) (ps : List PipeOp) (a : ActedList) → IsActed d issue n ps a → AccessesAct core plan delays s events t d ps issue n ops → Goes (numbered n ops) a
  goes_in_turn d issue n ops ps a h acts = inr (record {
    draft = d;
    issue = issue;
    nets = subst (λ qs. AreActs d issue qs qs a.nets.items) (sym h.ops) h.acts;
    acts = subst (λ qs. AccessesAct core plan delays s events t d qs issue n ops) (sym h.ops) acts;
  })

  none_go : (acted : List ActedList) → acted ≡ [] → AllZip Goes [] acted
  none_go acted e = subst (AllZip Goes []) (sym e) tt

  bounds_go : (d : Draft) (near : List Near) (env : Nets) (n : ℕ) (counters : List PlainCounter) (counts : List Count) (w : BoundCircuits core plan s near env d counters counts) (acted : List ActedList) → BoundsActed core plan s near env d n counters counts w acted
      → AllZip Goes (bounds_in counters n) acted
  bounds_go d near env n [] [] w acted h = none_go acted h
  bounds_go d near env n [] (count ∷ counts) w acted h = absurd h
  bounds_go d near env n (c ∷ counters) [] w acted h = absurd h
  bounds_go d near env n (c ∷ counters) (count ∷ counts) w [] h = absurd h
  bounds_go d near env n (c ∷ counters) (count ∷ counts) w (a ∷ []) h = absurd h
  bounds_go d near env n (c ∷ counters) (count ∷ counts) w (a ∷ b ∷ acted) h = (inl refl, (inl refl, bounds_go d near env (n + (length c.from + length c.until)) counters counts w.1 acted h.2))

  spans_go : (d : Draft) (near : List Near) (env : Nets) (n : ℕ) (spans : List PlainSpan) (nets : List SpanNets) (w : SpanCircuits core plan s near env d spans nets) (acted : List ActedList) → SpansActed core plan s near env d n spans nets w acted
      → AllZip Goes (spans_in spans n) acted
  spans_go d near env n [] [] w acted h = none_go acted h
  spans_go d near env n [] (net ∷ nets) w acted h = absurd h
  spans_go d near env n (single ops ∷ spans) [] w acted h = absurd h
  spans_go d near env n (single ops ∷ spans) (two_nets from until ∷ nets) w acted h = absurd h
  spans_go d near env n (single ops ∷ spans) (one_net net ∷ nets) w [] h = absurd h
  spans_go d near env n (single ops ∷ spans) (one_net net ∷ nets) w (a ∷ acted) h = (inl refl, spans_go d near env (n + length ops) spans nets w.1 acted h.1)
  spans_go d near env n (range xs ys ∷ spans) [] w acted h = absurd h
  spans_go d near env n (range xs ys ∷ spans) (one_net net ∷ nets) w acted h = absurd h
  spans_go d near env n (range xs ys ∷ spans) (two_nets from until ∷ nets) w [] h = absurd h
  spans_go d near env n (range xs ys ∷ spans) (two_nets from until ∷ nets) w (a ∷ []) h = absurd h
  spans_go d near env n (range xs ys ∷ spans) (two_nets from until ∷ nets) w (a ∷ b ∷ acted) h = (inl refl, (inl refl, spans_go d near env (n + (length xs + length ys)) spans nets w.2 acted h.2))

  issue_goes : (near : List Near) (env : Nets) (k n : ℕ) (counters : List PlainCounter) (ops : List PlainOp) (ps : List PipeOp) (issue : ℕ) (c : Child) (w : Issued core plan s near env k counters ops ps issue c) (acted : List ActedList)
      → BoundsOf core plan s near env k n counters ops ps issue c w acted → AllZip Goes (bounds_in counters n) acted
  issue_goes near env k n [] ops ps issue c w acted h = none_go acted h
  issue_goes near env k n (x ∷ counters) ops ps issue c w acted h = bounds_go w.draft near env n (x ∷ counters) w.part.counters.items w.bounds acted h

  one_goes : (d : Draft) (issue n : ℕ) (ops : List PlainOp) (ps : List PipeOp) (acted : List ActedList) → HandsOne (IsActed d issue n ps) acted → AccessesAct core plan delays s events t d ps issue n ops → AllZip Goes (numbered n ops ∷ []) acted
  one_goes d issue n ops ps [] h acts = absurd h
  one_goes d issue n ops ps (a ∷ []) h acts = (goes_in_turn d issue n ops ps a h acts, tt)
  one_goes d issue n ops ps (a ∷ b ∷ acted) h acts = absurd h

  mutual
    pub lists_go : (node : PlainNode) (near : List Near) (env : Nets) (k n : ℕ) (qs : List Scoped) (c : Child) (w : Circuit core plan s node near env k c) (acted : List ActedList) → AreHanded core plan s node near env k n c w acted
        → Acts core plan delays s events t node near env k n qs c w → AllZip Goes (lists_in node n) acted
    lists_go (branch ops first second) near env k n qs c w acted h g =
        subst (AllZip Goes (lists_in (branch ops first second) n)) (sym h.all) (
          goes_in_turn w.tests.draft w.tests.issue n ops w.tests.ps h.test h.tests g.1.acts,
          zip_append Goes (lists_in first (n + length ops)) (lists_in second (n + (length ops + number_count first))) h.one h.other
              (lists_go first near env (suc k) (n + length ops) (scoped_sides core plan delays ops k true qs) w.chosen w.one h.one h.firsts g.2)
              (lists_go second near env (suc k + node_count first) (n + (length ops + number_count first)) (scoped_sides core plan delays ops k false qs) w.left w.other h.other h.seconds g.3),
        )
    lists_go (fsm start state ops node after) near env k n qs c w acted h g =
        subst (AllZip Goes (lists_in (fsm start state ops node after) n)) (sym h.all) (
          goes_in_turn w.begins.draft w.begins.issue n start w.begins.ps h.first h.begins g.1.acts,
          (
            goes_in_turn w.tests.draft w.tests.issue (n + length start) ops w.tests.ps h.test h.tests g.2.acts,
            zip_append Goes (lists_in node (n + (length start + length ops))) (numbered (n + (length start + (length ops + number_count node))) after ∷ []) h.body (h.next ∷ [])
                (lists_go node near env (suc k) (n + (length start + length ops)) (scoped_bodies core plan delays start ops after node k n qs) w.body w.goes h.body h.goes g.4)
                (goes_in_turn w.steps.draft w.steps.issue (n + (length start + (length ops + number_count node))) after w.steps.ps h.next h.steps g.3.acts, tt),
          ),
        )
    lists_go (outer counters style owned stages) near env k n qs c w acted h g =
        subst (AllZip Goes (lists_in (outer counters style owned stages) n)) (sym h.all)
        (zip_append Goes (bounds_in counters n) (lists_in_stages stages (n + counters_size counters)) h.bounds h.inside (bounds_go w.draft near env n counters w.part.counters.items w.bounds h.bounds h.bound)
        (stages_go stages (own_near counters near) (suc k) (n + counters_size counters) 0 (λ i. slot_nets w.nets w.rows env counters (slot_at (slots_of (node_plan plan k)) i).slot) (λ i. scoped_stages core plan delays counters owned stages k n i qs) w.child w.parts h.inside
        h.stand g.2))
    lists_go (inner counters owned ops comb) near env k n qs c w acted h g =
        subst (AllZip Goes (lists_in (inner counters owned ops comb) n)) (sym h.all)
        (zip_append Goes (bounds_in counters n) (numbered (n + counters_size counters) ops ∷ []) h.bounds h.inside (issue_goes near env k n counters ops w.ps w.issue c w.issued h.bounds h.bound)
        (one_goes w.draft w.issue (n + counters_size counters) ops w.ps h.inside h.stand g.1))
    lists_go (load r m spans) near env k n qs c w acted h g = spans_go w.draft near env n spans w.nets w.ends acted h
    lists_go (store r m spans) near env k n qs c w acted h g = spans_go w.draft near env n spans w.nets w.ends acted h
    lists_go (sparse kind r m places spans count par) near env k n qs c w acted h g = absurd h

    stages_go : (stages : PlainStages) (near : List Near) (j n i : ℕ) (nets : (stage : ℕ) → Nets) (qs : (stage : ℕ) → List Scoped) (child : (stage : ℕ) → Child) (w : StageCircuits core plan s stages near j i nets child) (acted : List ActedList)
        → StagesHanded core plan s stages near j n i nets child w acted → StagesAct core plan delays s events t stages near j n i nets qs child w → AllZip Goes (lists_in_stages stages n) acted
    stages_go no_stage near j n i nets qs child w acted h g = none_go acted h
    stages_go (more_stage first last comb node rest) near j n i nets qs child w acted h g =
        subst (AllZip Goes (lists_in_stages (more_stage first last comb node rest) n)) (sym h.all)
        (zip_append Goes (lists_in node n) (lists_in_stages rest (n + number_count node)) h.one h.rest (lists_go node near (nets i) j n (qs i) (child i) w.0 h.one h.first g.0)
        (stages_go rest near (j + node_count node) (n + number_count node) (suc i) nets qs child w.1 h.rest h.others g.1))
