use Rattle.sp_time.proofs.Contents.{contents_in_time}
use Rattle.sp_time.proofs.laws.contents_in_time.Goals as goal

pub returns : goal.returns
returns c = contents_in_time
