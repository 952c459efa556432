use Rattle.std.proofs.Common.{length}
use Rattle.sp_access_nets.proofs.splitting.+add_accesses.Given as goal

abbrev pub decreases-add_accesses : goal.decreases-add_accesses
decreases-add_accesses l = length l.ops.now
