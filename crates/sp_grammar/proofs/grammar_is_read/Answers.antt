use Rattle.sp_grammar.proofs.AgainPrograms.{program_again}
use Rattle.sp_grammar.proofs.grammar_is_read.Goals as goal

-- src/lib.rt:13:1
pub returns : goal.returns
returns c = λ source ts tree h. program_again source h
