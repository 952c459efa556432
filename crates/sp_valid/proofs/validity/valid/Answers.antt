use Rattle.std.proofs.Common.{◌≡◌, IsTrue, ◌↔◌, ap, ◌∙◌, subst}
use Rattle.sp_core.specs.CoreParts.{plain_core}
use Rattle.sp_core.specs.Forms.{plain_forms}
use Rattle.sp_plan.specs.Plain.{plain_plan}
use Rattle.sp_plan.specs.PlainPlan.{PlainPlan}
use Rattle.sp_plans.specs.Parts.{IsRightByParts}
use Rattle.sp_valid.proofs.validity.valid.Goals as goal
use Rattle.sp_valid.specs.Plans.{plan_of}

pub returns : goal.returns
returns c =
    let core = plain_core c.args.core.now in
    let forms = plain_forms c.args.forms.now in
    let law = c.plans_are_valid_by_parts.ensures core forms c.args.meets.now (plain_plan c.args.plan.now) c.root-root.ensures.core in
    let same : plan_of c.deref.result.now c.deref-2.result.now ≡ plain_plan c.args.plan.now =
    ap (λ xs. plan_of xs c.deref-2.result.now) c.deref.ensures.value ∙ ap (plan_of c.args.plan.now.mems.items) c.deref-2.ensures.value in
    let P : PlainPlan → Type 0 = λ x. IsTrue c.is_right_by_parts.result ↔ IsRightByParts core forms c.args.meets.now x in
    let parts = subst P same c.is_right_by_parts.ensures in
    (λ t. law.1 (parts.0 t), λ v. parts.1 (law.0 v))
