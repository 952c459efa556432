use Rattle.sp_memory_nets.proofs.ArraySharing.{arrays_share_none}
use Rattle.sp_memory_nets.proofs.array_laws.arrays_share_none.Goals as goal

pub returns : goal.returns
returns c = arrays_share_none
