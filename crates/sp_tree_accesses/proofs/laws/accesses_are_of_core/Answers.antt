use Rattle.sp_tree_accesses.proofs.Allowed.{of_core}
use Rattle.sp_tree_accesses.proofs.laws.accesses_are_of_core.Goals as goal

pub returns : goal.returns
returns c core copy acted accesses tree a there = of_core core copy c.rules_name_memories.ensures c.each_is_of_operation.ensures acted accesses tree a there
