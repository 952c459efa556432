use Rattle.sp_gates.proofs.Growing.{Fills-none}
use Rattle.sp_pipe.proofs.masks.under_mask.Goals as goal

pub returns-else-gives_word-clause-fills : goal.returns-else-gives_word-clause-fills
returns-else-gives_word-clause-fills c = Fills-none _
