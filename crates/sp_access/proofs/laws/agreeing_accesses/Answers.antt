use Rattle.sp_access.proofs.Agreeing.{put_by_last, found_by_last}
use Rattle.sp_access.proofs.laws.agreeing_accesses.Goals as goal

pub returns : goal.returns
returns c = record { writes = put_by_last; reads = found_by_last }
