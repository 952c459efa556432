use Rattle.sp_tree_accesses.proofs.AnswerKinds.{answers_of_reads}
use Rattle.sp_tree_accesses.proofs.laws.answers_are_of_reads.Goals as goal

pub returns : goal.returns
returns c core = answers_of_reads core c.rules_name_memories.ensures c.each_is_of_operation.ensures
