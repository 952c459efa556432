use Rattle.std.proofs.Common.{true}
use Rattle.sp_core.specs.CoreParts.{plain_core}
use Rattle.sp_core.specs.Forms.{plain_forms}
use Rattle.sp_valid.proofs.ByParts.{no_wrong, few_mems, few_nodes, all_parts}
use Rattle.sp_valid.proofs.validity.is_right_by_parts.Goals as goal

pub returns-then-not-has_each_mem : goal.returns-then-not-has_each_mem
returns-then-not-has_each_mem c =
    no_wrong c.has_each_mem.result c.if-not-has_each_mem.true c.has_each_mem.ensures (few_mems (plain_core c.args.core.now) (plain_forms c.args.forms.now) c.args.meets.now c.args.mems.now c.args.nodes.now)

pub returns-then-not-has_each_node : goal.returns-then-not-has_each_node
returns-then-not-has_each_node c =
    no_wrong c.has_each_node.result c.if-not-has_each_node.true c.has_each_node.ensures (few_nodes (plain_core c.args.core.now) (plain_forms c.args.forms.now) c.args.meets.now c.args.mems.now c.args.nodes.now)

pub returns-then-not-are_nodes_right : goal.returns-then-not-are_nodes_right
returns-then-not-are_nodes_right c = no_wrong c.are_nodes_right.result c.if-not-are_nodes_right.true c.are_nodes_right.ensures (λ r. r.each_node)

pub are_mems_right-requires : goal.are_mems_right-requires
are_mems_right-requires c = c.has_each_mem.ensures.0 c.if-not-has_each_mem.false

pub returns : goal.returns
returns c =
    all_parts (plain_core c.args.core.now) (plain_forms c.args.forms.now) c.args.meets.now c.args.mems.now c.args.nodes.now c.are_mems_right.result
    (c.has_each_mem.ensures.0 c.if-not-has_each_mem.false) (c.has_each_node.ensures.0 c.if-not-has_each_node.false) (c.are_nodes_right.ensures.0 c.if-not-are_nodes_right.false) c.are_mems_right.ensures
