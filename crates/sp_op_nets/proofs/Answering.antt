-- The nets on which operations are answered, and when.
use Rattle.std.proofs.Common.{ℕ, zero, suc, ◌<◌, List, [], ◌∷◌, length, refl, sym, ◌∙◌, subst, arith}
use Rattle.sp_words.specs.declared.types.Ty.{Ty}
use Rattle.sp_words.specs.Types.{width_of}
use Rattle.sp_gates.specs.Nets.{HasNet}
use Rattle.sp_gates.proofs.Growing.{HasNet-stays}
use Rattle.sp_core.specs.Plain.{plain_ops}
use Rattle.sp_core.specs.PlainCore.{PlainOp}
use Rattle.sp_part_runs.specs.ActsCircuits.{net_of}
use Rattle.sp_part_runs.specs.ActsEntries.{IsOpAt}
use Rattle.sp_op_nets.specs.Laws.{AnswersHaveNets, AnswersComeAfter}
use Rattle.sp_op_nets.proofs.Giving.{answered_right, net_here}

-- the operation at a place
op_there : (ops : List PlainOp) (k : ℕ) → k < length ops → (op : PlainOp) × IsOpAt ops k op
op_there [] k lt = absurd (omega (arith, lt))
op_there (op ∷ ops) zero lt = (op, record { within = lt; is = λ o. refl })
op_there (op ∷ ops) (suc k) lt = (let r = op_there ops k (omega (arith, lt)) in (r.0, record { within = lt; is = r.1.is }))

pub have_nets : AnswersHaveNets
have_nets d later table ops times afters nets ps all placed grows k p at e =
    let o = op_there (plain_ops ops) k (let lt = at.within in let each = placed.ops_of.each in omega (arith, lt, each)) in
    let is = placed.ops_of.alike k o.0 p o.1 at in
    let here = (net_here d table (plain_ops ops) afters nets k o.0 all o.1).stands (answered_right o.0.kind p.act is.kinds e) in
    subst (λ (ty : Ty). HasNet later (net_of p.act) (width_of ty)) (sym is.types) (subst (λ n. HasNet later n (width_of o.0.ty)) (sym (placed.answered k p at e)) (HasNet-stays d later _ _ grows here))

pub come_after : AnswersComeAfter
come_after d table ops times afters nets ps after all placed each k op p there at e =
    let is = placed.ops_of.alike k op p there at in
    placed.later k p at e ∙ (net_here d table (plain_ops ops) afters nets k op all there).later (answered_right op.kind p.act is.kinds e) ∙ each k op there
