use Rattle.sp_contents.proofs.First.{first_contents_agree}
use Rattle.sp_contents.proofs.laws.first_contents_agree.Goals as goal

pub returns : goal.returns
returns c = first_contents_agree
