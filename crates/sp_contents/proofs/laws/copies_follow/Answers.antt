use Rattle.sp_contents.proofs.Following.{copies_follow}
use Rattle.sp_contents.proofs.laws.copies_follow.Goals as goal

pub returns : goal.returns
returns c = copies_follow
