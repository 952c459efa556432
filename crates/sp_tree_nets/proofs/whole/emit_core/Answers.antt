use Rattle.std.proofs.Common.{[], sym, ◌∙◌, subst}
use Rattle.sp_core.specs.Around.{nothing}
use Rattle.sp_core.specs.CoreParts.{plain_core}
use Rattle.sp_core.specs.Plain.{plain_node}
use Rattle.sp_plan.specs.Plain.{plain_plan}
use Rattle.sp_tree_handed.specs.Lists.{lists_in}
use Rattle.sp_tree_handed.specs.Moves.{AreMovesStanding, slices_in}
use Rattle.sp_tree_handed.specs.Standing.{AreListsStanding}
use Rattle.sp_tree_nets.specs.Emitted.{CanEmit, IsTree}
use Rattle.sp_tree_nets.proofs.Small.{can_emit, nobody_stands}
use Rattle.sp_tree_nets.proofs.whole.emit_core.Goals as goal

pub emit_node-requires-clause-can : goal.emit_node-requires-clause-can
emit_node-requires-clause-can c =
    subst (λ ts. CanEmit c.args.builder.now (plain_core c.args.core.now) (plain_plan c.args.plan.now) ts c.args.ends.now (plain_node c.root-root.result.now) 0 0) (sym (c.deref.ensures.value ∙ c.new-around.ensures.items))
    (subst (λ x. CanEmit c.args.builder.now (plain_core c.args.core.now) (plain_plan c.args.plan.now) [] c.args.ends.now (plain_node x) 0 0) (sym c.root-root.ensures.root)
    (can_emit c.args.builder.now (plain_core c.args.core.now) (plain_plan c.args.plan.now) c.args.ends.now c.root-root.ensures.core c.requires.ends c.requires.plan c.plans_leave_time.ensures c.plans_have_places.ensures))

pub returns-clause-whole : goal.returns-clause-whole
returns-clause-whole c =
    subst (λ x. IsTree c.args.builder.now c.emit_node.new.builder (plain_core c.args.core.now) (plain_plan c.args.plan.now) [] c.args.ends.now (plain_node x) 0 0 c.in_ok-tree.tree.child c.in_ok-tree.tree.acted.items c.in_ok-tree.tree.owners.turns.items c.in_ok-tree.tree.owners.kept.items c.in_ok-tree.tree.moves.items) c.root-root.ensures.root
    (subst (λ ts. IsTree c.args.builder.now c.emit_node.new.builder (plain_core c.args.core.now) (plain_plan c.args.plan.now) ts c.args.ends.now (plain_node c.root-root.result.now) 0 0 c.in_ok-tree.tree.child c.in_ok-tree.tree.acted.items c.in_ok-tree.tree.owners.turns.items c.in_ok-tree.tree.owners.kept.items c.in_ok-tree.tree.moves.items) (c.deref.ensures.value ∙ c.new-around.ensures.items) c.in_ok-tree.ensures.tree)
    nothing [] c.root-root.ensures.core.nodes (nobody_stands c.args.builder.now)

pub returns-clause-lists : goal.returns-clause-lists
returns-clause-lists c =
    subst (λ x. AreListsStanding c.emit_node.new.builder (plain_core c.args.core.now) (lists_in (plain_node x) 0) c.in_ok-tree.tree.acted.items) c.root-root.ensures.root c.in_ok-tree.ensures.lists

pub returns-clause-moves : goal.returns-clause-moves
returns-clause-moves c =
    subst (λ x. AreMovesStanding c.emit_node.new.builder (slices_in (plain_node x) 0) c.in_ok-tree.tree.moves.items) c.root-root.ensures.root c.in_ok-tree.ensures.moves
