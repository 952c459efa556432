use Rattle.std.proofs.Common.{◌≡◌, ◌<◌, ◌≤◌, true, ap, sym, ◌∙◌, arith}
use Rattle.sp_core.specs.CoreParts.{plain_core}
use Rattle.sp_core.specs.Forms.{plain_forms}
use Rattle.sp_core.specs.Numbering.{node_count}
use Rattle.sp_core.specs.Plain.{plain_node}
use Rattle.sp_plans.specs.Parts.{IsNodeRight}
use Rattle.sp_valid.proofs.Below.{one_more, some_wrong, all_right}
use Rattle.sp_valid.proofs.nodes.are_nodes_right.Goals as goal
use Rattle.sp_valid.specs.Plans.{plan_of}

pub loop-k-init : goal.loop-k-init
loop-k-init c = λ j lt. absurd (omega (arith, lt))

pub returns-then-not-is_node_right : goal.returns-then-not-is_node_right
returns-then-not-is_node_right c =
    let root = ap (λ x. node_count (plain_node x)) c.root.ensures.root in
    let below : c.loop-k.k < node_count (plain_core c.args.core.now).root = omega (arith, c.loop-k-test.true, c.count_nodes-count.ensures, root) in
    some_wrong (IsNodeRight (plain_core c.args.core.now) (plain_forms c.args.forms.now) c.args.meets.now (plan_of c.args.mems.now c.args.nodes.now)) (node_count (plain_core c.args.core.now).root) c.loop-k.k below
    (λ h. let passed : c.is_node_right.result ≡ true = c.is_node_right.ensures ∙ h in let no : ⊥ = cc in no)

pub loop-k-preserved : goal.loop-k-preserved
loop-k-preserved c =
    one_more (IsNodeRight (plain_core c.args.core.now) (plain_forms c.args.forms.now) c.args.meets.now (plan_of c.args.mems.now c.args.nodes.now)) c.loop-k.k c.loop-k.invariant
    (sym c.is_node_right.ensures ∙ c.if-not-is_node_right.false)

pub returns : goal.returns
returns c =
    let root = ap (λ x. node_count (plain_node x)) c.root.ensures.root in
    let past : node_count (plain_core c.args.core.now).root ≤ c.loop-k.k = omega (arith, c.loop-k-test.false, c.count_nodes-count.ensures, root) in
    all_right (IsNodeRight (plain_core c.args.core.now) (plain_forms c.args.forms.now) c.args.meets.now (plan_of c.args.mems.now c.args.nodes.now)) (node_count (plain_core c.args.core.now).root) c.loop-k.k past c.loop-k.invariant
