use Rattle.std.proofs.Common.{refl}
use Rattle.sp_time.proofs.laws.overlap_example.Goals as goal

pub returns : goal.returns
returns c = record { took = refl; events = refl }
