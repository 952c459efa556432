-- The limit of a narrow core is no greater.
use Rattle.std.proofs.Common.{◌≡◌, ℕ, ◌+◌, ◌*◌, ◌≤◌, List, [], ◌∷◌, Option, Some, None, refl, ◌∙◌, ap, arith}
use Rattle.std.proofs.lemmas.Nat.{mul-le}
use Rattle.sp_core.specs.declared.node.SparseKind.TheVariants.{Gather, Scatter, WideLoad, WideStore}
use Rattle.sp_core.specs.declared.operation.OpKind.{OpKind}
use Rattle.sp_core.specs.Latency.{read_of, latency_by, weight_by, latency, list_weight, counters_weight, spans_weight, weight, stages_weight, limit}
use Rattle.sp_core.specs.PlainCore.{PlainOp, PlainCounter, PlainSpan, single, range, PlainNode, PlainStages, inner, outer, fsm, branch, load, store, sparse, no_stage, more_stage, PlainCore}
use Rattle.sp_narrow.specs.Narrow.{narrow_node, narrow_stages, narrow}
use Rattle.sp_narrow.proofs.Rounds.{HasLanes, HaveLanes}

module _ (core : PlainCore) where
  operation_same : (kind : OpKind) (m : Option ℕ) → weight_by (narrow core) kind (latency_by kind (read_of (narrow core) m)) ≡ weight_by core kind (latency_by kind (read_of core m))
  operation_same kind None = ap (λ n. n) (weight_same kind (latency_by kind 1))
    where
      weight_same : (kind : OpKind) (n : ℕ) → weight_by (narrow core) kind n ≡ weight_by core kind n
      weight_same kind n = refl
  operation_same kind (Some m) = refl

  list_same : (ops : List PlainOp) → list_weight (narrow core) ops ≡ list_weight core ops
  list_same [] = refl
  list_same (op ∷ ops) = ap (λ n. n + list_weight (narrow core) ops) (operation_same op.kind op.mem) ∙ ap (λ n. weight_by core op.kind (latency core op) + n) (list_same ops)

  counters_same : (counters : List PlainCounter) → counters_weight (narrow core) counters ≡ counters_weight core counters
  counters_same [] = refl
  counters_same (c ∷ counters) = let a = list_same c.from in let b = list_same c.until in let d = counters_same counters in omega (arith, a, b, d)

  spans_same : (spans : List PlainSpan) → spans_weight (narrow core) spans ≡ spans_weight core spans
  spans_same [] = refl
  spans_same (single ops ∷ spans) = let a = list_same ops in let b = spans_same spans in omega (arith, a, b)
  spans_same (range from until ∷ spans) = let a = list_same from in let b = list_same until in let d = spans_same spans in omega (arith, a, b, d)

  mutual
    less : (node : PlainNode) → HasLanes node → weight (narrow core) (narrow_node node) ≤ weight core node
    less (inner counters owned ops comb) h = let a = counters_same counters in let b = list_same ops in omega (arith, a, b)
    less (outer counters style owned stages) h = let a = counters_same counters in let b = less_in stages h in omega (arith, a, b)
    less (fsm start state test body next) h = let a = list_same start in let b = list_same test in let c = less body h in let d = list_same next in omega (arith, a, b, c, d)
    less (branch test first second) h = let a = list_same test in let b = less first h.0 in let c = less second h.1 in omega (arith, a, b, c)
    less (load r m spans) h = let a = spans_same spans in omega (arith, a)
    less (store r m spans) h = let a = spans_same spans in omega (arith, a)
    less (sparse Gather r m places spans count par) h = let a = spans_same spans in let b = list_same count in omega (arith, a, b)
    less (sparse Scatter r m places spans count par) h = let a = spans_same spans in let b = list_same count in omega (arith, a, b)
    less (sparse WideLoad r m places spans count par) h = let a = spans_same spans in omega (arith, a, h)
    less (sparse WideStore r m places spans count par) h = let a = spans_same spans in omega (arith, a, h)

    less_in : (stages : PlainStages) → HaveLanes stages → stages_weight (narrow core) (narrow_stages stages) ≤ stages_weight core stages
    less_in no_stage h = omega arith
    less_in (more_stage first last comb node rest) h = let a = less node h.0 in let b = less_in rest h.1 in omega (arith, a, b)

pub less_limit : (core : PlainCore) → HasLanes core.root → (n delay : ℕ) → limit n delay (narrow core) ≤ limit n delay core
less_limit core h n delay =
    let a = less core core.root h in
    mul-le (n + 1) (delay + 8 * (weight (narrow core) (narrow core).root + 1)) (n + 1) (delay + 8 * (weight core core.root + 1)) (omega arith) (omega (arith, a))
