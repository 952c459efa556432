use Rattle.sp_refused_texts.proofs.Refused.{passed}
use Rattle.sp_refused_texts.proofs.passed_texts.Goals as goal

pub returns : goal.returns
returns c = passed
