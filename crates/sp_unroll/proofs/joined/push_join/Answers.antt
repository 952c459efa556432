use Rattle.std.proofs.Common.{◌≡◌, ◌++◌, ◌∷◌, [], append_assoc, length, arith, ap, ◌∙◌}
use Rattle.sp_core.specs.declared.operation.OpKind.TheVariants.{Two, Mux}
use Rattle.sp_core.specs.Plain.{plain_op, plain_ops}
use Rattle.sp_lanes.specs.Bodies.{computes}
use Rattle.sp_unroll.proofs.joined.push_join.Goals as goal

pub returns-clause-ops : goal.returns-clause-ops
returns-clause-ops c =
    let out = plain_ops c.args.ops.now.items in
    let ty = c.args.by.ty in
    let kind = Two c.args.by.op in
    let word : plain_op c.computes-word.result ≡ computes kind ty (c.args.left ∷ c.args.right ∷ []) = c.computes-word.ensures ∙ ap (computes kind ty) c.in_ok-vec.ensures.items in
    let choice : plain_op c.computes-choice.result ≡ computes Mux ty (c.args.mask ∷ length out ∷ c.args.left ∷ []) =
    c.computes-choice.ensures ∙ ap (computes Mux ty) c.in_ok-vec-2.ensures.items ∙ ap (λ k. computes Mux ty (c.args.mask ∷ k ∷ c.args.left ∷ [])) c.in_ok-at.ensures.place in
    c.in_ok-place.ensures.ops
    ∙ ap (λ x. x ++ plain_op c.computes-choice.result ∷ []) c.in_ok-at.ensures.ops
    ∙ append_assoc out (plain_op c.computes-word.result ∷ []) (plain_op c.computes-choice.result ∷ [])
    ∙ (λ i. out ++ word i ∷ choice i ∷ [])

pub returns-clause-place : goal.returns-clause-place
returns-clause-place c = omega (arith, c.in_ok-place.ensures.place, c.in_ok-at.ensures.last, c.in_ok-at.ensures.place)
