-- The lists of bounds and of spans, one after the other.
use Rattle.std.proofs.Common.{◌≡◌, ℕ, ◌+◌, List, [], ◌∷◌, length, subst, arith}
use Rattle.sp_netlist.specs.Draft.{Draft}
use Rattle.sp_netlist.specs.Signals.{Signals}
use Rattle.sp_core.specs.Around.{Near}
use Rattle.sp_core.specs.PlainCore.{PlainOp, PlainCounter, PlainSpan, single, range, PlainCore}
use Rattle.sp_counters.specs.declared.part.Count.{Count}
use Rattle.sp_pipe.specs.declared.part.PipeOp.{PipeOp}
use Rattle.sp_plan.specs.PlainPlan.{PlainPlan}
use Rattle.sp_node_runs.specs.BodiesGiven.{Nets}
use Rattle.sp_node_runs.specs.BodiesSpans.{SpanNets, one_net, two_nets}
use Rattle.sp_node_runs.specs.BodiesTold.{AreAnsweredInTime}
use Rattle.sp_op_nets.specs.declared.acted.ActedList.{ActedList}
use Rattle.sp_tree_circuits.specs.Answers.{EachBound, EachSpan}
use Rattle.sp_tree_circuits.specs.Parts.{BoundCircuits, SpanCircuits}
use Rattle.sp_bound_nets.specs.Bounds.{bound_lists, BoundsActed}
use Rattle.sp_bound_nets.specs.Laws.{EachActed, BoundsAreAnswered, SpansAreAnswered}
use Rattle.sp_bound_nets.specs.Spans.{span_lists, SpansActed}

module _ (core : PlainCore) (plan : PlainPlan) (s : Signals) (P : (number : ℕ) → List PlainOp → List PipeOp → Type 0) (near : List Near) (env : Nets) (d : Draft) where
  each_bound : (n : ℕ) (counters : List PlainCounter) (counts : List Count) (acted : List ActedList) (w : BoundCircuits core plan s near env d counters counts) → BoundsActed core plan s near env d n counters counts w acted
      → EachActed P n (bound_lists counters) acted → EachBound core plan s P near env d n counters counts w
  each_bound n [] [] acted w e h = tt
  each_bound n (c ∷ counters) (k ∷ counts) (x ∷ y ∷ acted) w e h =
      let m : (n + length c.from) + length c.until ≡ n + (length c.from + length c.until) = omega arith in (
        subst (P n c.from) e.0.acted.ops h.0,
        subst (P (n + length c.from) c.until) e.1.acted.ops h.1.0,
        each_bound (n + (length c.from + length c.until)) counters counts acted w.1 e.2 (subst (λ i. EachActed P i (bound_lists counters) acted) m h.1.1),
      )
  each_bound n (c ∷ counters) (k ∷ counts) (x ∷ []) w e h = absurd e
  each_bound n (c ∷ counters) (k ∷ counts) [] w e h = absurd e
  each_bound n [] (k ∷ counts) acted w e h = absurd e
  each_bound n (c ∷ counters) [] acted w e h = absurd e

  each_span : (n : ℕ) (spans : List PlainSpan) (nets : List SpanNets) (acted : List ActedList) (w : SpanCircuits core plan s near env d spans nets) → SpansActed core plan s near env d n spans nets w acted
      → EachActed P n (span_lists spans) acted → EachSpan core plan s P near env d n spans nets w
  each_span n [] [] acted w e h = tt
  each_span n (single ops ∷ spans) (one_net net ∷ nets) (x ∷ acted) w e h = (subst (P n ops) e.0.acted.ops h.0, each_span (n + length ops) spans nets acted w.1 e.1 h.1)
  each_span n (range xs ys ∷ spans) (two_nets from until ∷ nets) (x ∷ y ∷ acted) w e h =
      let m : (n + length xs) + length ys ≡ n + (length xs + length ys) = omega arith in (
        subst (P n xs) e.0.acted.ops h.0,
        subst (P (n + length xs) ys) e.1.acted.ops h.1.0,
        each_span (n + (length xs + length ys)) spans nets acted w.2 e.2 (subst (λ i. EachActed P i (span_lists spans) acted) m h.1.1),
      )
  each_span n (single ops ∷ spans) (one_net net ∷ nets) [] w e h = absurd e
  each_span n (range xs ys ∷ spans) (two_nets from until ∷ nets) (x ∷ []) w e h = absurd e
  each_span n (range xs ys ∷ spans) (two_nets from until ∷ nets) [] w e h = absurd e
  each_span n [] (net ∷ nets) acted w e h = absurd e
  each_span n (single ops ∷ spans) [] acted w e h = absurd e
  each_span n (single ops ∷ spans) (two_nets from until ∷ nets) acted w e h = absurd e
  each_span n (range xs ys ∷ spans) [] acted w e h = absurd e
  each_span n (range xs ys ∷ spans) (one_net net ∷ nets) acted w e h = absurd e

pub bounds_answered : BoundsAreAnswered
bounds_answered core plan s events last near env d n counters counts acted w h = each_bound core plan s (AreAnsweredInTime s events last) near env d n counters counts acted w.circuits w.acts h

pub spans_answered : SpansAreAnswered
spans_answered core plan s events last near env d n spans nets acted w h = each_span core plan s (AreAnsweredInTime s events last) near env d n spans nets acted w.circuits w.acts h
