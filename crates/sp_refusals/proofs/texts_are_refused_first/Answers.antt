use Rattle.sp_refusals.proofs.TextRefusals.{refused_first}
use Rattle.sp_refusals.proofs.texts_are_refused_first.Goals as goal

pub returns : goal.returns
returns c = refused_first
