use Rattle.std.proofs.Common.{[]}
use Rattle.sp_core.specs.Around.{nothing}
use Rattle.sp_tree_handed.specs.Lists.{lists_in}
use Rattle.sp_tree_accesses.proofs.Numbers.{in_lists}
use Rattle.sp_tree_accesses.proofs.Rules.{lists_right}
use Rattle.sp_tree_accesses.proofs.Told.{found}
use Rattle.sp_tree_accesses.proofs.laws.operations_have_accesses.Goals as goal

pub returns : goal.returns
returns c core copy acted accesses tree m n kind is =
    found core copy c.rules_name_memories.ensures tree.draft c.each_has_access.ensures (lists_in core.root 0) acted accesses tree.all (lists_right core core.root nothing [] 0 tree.right.nodes) tree.stand m n kind is.op
    (in_lists n is.op core.root 0 is.stands) is.mem is.kind_is
