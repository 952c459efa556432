use Rattle.sp_build.proofs.Inner.{inner_built}
use Rattle.sp_build.proofs.laws.inner_blocks_can_be_built.Goals as goal

pub returns : goal.returns
returns c p is = inner_built p
