use Rattle.sp_banked.proofs.Arrays.{holds, finds}
use Rattle.sp_banked.proofs.laws.memories_are_arrays.Goals as goal

pub returns : goal.returns
returns c = record { holds = holds; finds = finds }
