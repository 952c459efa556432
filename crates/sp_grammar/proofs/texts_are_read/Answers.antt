use Rattle.sp_grammar.proofs.Texts.{read_is_spelled, spelled_is_read}
use Rattle.sp_grammar.proofs.texts_are_read.Goals as goal

-- src/lib.rt:23:1
pub returns : goal.returns
returns c = λ source tree. (read_is_spelled source tree, spelled_is_read source tree)
