use Rattle.std.proofs.Common.{false, ap, sym, ◌∙◌, arith}
use Rattle.sp_core.specs.CoreParts.{plain_core}
use Rattle.sp_core.specs.Forms.{plain_forms}
use Rattle.sp_core.specs.Numbering.{node_count, number_count}
use Rattle.sp_core.specs.Plain.{plain_node}
use Rattle.sp_plan.specs.Nodes.{site_at, keeps_at}
use Rattle.sp_plan.specs.Sites.{plain_site}
use Rattle.sp_plans.specs.Parts.{node_rules}
use Rattle.sp_stages.proofs.Sizes.{small, site_within}
use Rattle.sp_valid.proofs.nodes.is_node_right.Goals as goal
use Rattle.sp_valid.specs.Plans.{plan_of}

pub site_at-requires-clause-nodes : goal.site_at-requires-clause-nodes
site_at-requires-clause-nodes c =
    let s = small (plain_core c.args.core.now) c.root.ensures.core in
    let root = ap (λ x. node_count (plain_node x)) c.root.ensures.root in
    omega arith

pub site_at-requires-clause-numbers : goal.site_at-requires-clause-numbers
site_at-requires-clause-numbers c =
    let s = small (plain_core c.args.core.now) c.root.ensures.core in
    let root = ap (λ x. number_count (plain_node x)) c.root.ensures.root in
    omega arith

pub is_planned_right-requires : goal.is_planned_right-requires
is_planned_right-requires c =
    let at = ap (λ x. site_at c.args.k 0 false (plain_node x)) (sym c.root.ensures.root) ∙ sym c.site_at.ensures ∙ ap plain_site c.in-Some.is in
    (site_within (plain_core c.args.core.now) c.args.k _ c.root.ensures.core at).0

pub returns-in-None : goal.returns-in-None
returns-in-None c =
    let at = ap (λ x. site_at c.args.k 0 false (plain_node x)) (sym c.root.ensures.root) ∙ sym c.site_at.ensures ∙ ap plain_site c.in-None.is in
    sym (ap (keeps_at (node_rules (plain_core c.args.core.now) (plain_forms c.args.forms.now) c.args.meets.now (plan_of c.args.mems.now c.args.nodes.now)) c.args.k) at)

pub returns-in-Some : goal.returns-in-Some
returns-in-Some c =
    let at = ap (λ x. site_at c.args.k 0 false (plain_node x)) (sym c.root.ensures.root) ∙ sym c.site_at.ensures ∙ ap plain_site c.in-Some.is in
    c.is_planned_right.ensures
    ∙ sym (ap (keeps_at (node_rules (plain_core c.args.core.now) (plain_forms c.args.forms.now) c.args.meets.now (plan_of c.args.mems.now c.args.nodes.now)) c.args.k) at)
