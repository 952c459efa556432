use Rattle.sp_core.specs.Declarations.{mem, kind_of}
use Rattle.sp_tree_accesses.proofs.AnswerKinds.{read_of}
use Rattle.sp_tree_accesses.proofs.laws.scalars_are_read.Goals as goal

pub returns : goal.returns
returns c core copy acted accesses tree a word there answer other =
    read_of a.kind (kind_of core a.mem) (mem core a.mem).start (c.answers_are_of_reads.ensures core copy acted accesses tree a word there answer) (c.accesses_are_of_core.ensures core copy acted accesses tree a there).allowed other
