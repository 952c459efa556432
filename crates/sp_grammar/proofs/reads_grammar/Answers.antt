use Rattle.sp_grammar.proofs.Programs.{program_is}
use Rattle.sp_grammar.proofs.reads_grammar.Goals as goal

-- src/lib.rt:7:1
pub returns : goal.returns
returns c = program_is
