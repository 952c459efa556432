use Rattle.sp_refused_texts.proofs.Exactly.{exactly}
use Rattle.sp_refused_texts.proofs.refused_texts.Goals as goal

pub returns : goal.returns
returns c = exactly
