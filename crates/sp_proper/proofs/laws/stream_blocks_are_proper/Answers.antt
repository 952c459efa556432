use Rattle.sp_proper.proofs.Whole.{streams_proper}
use Rattle.sp_proper.proofs.laws.stream_blocks_are_proper.Goals as goal

pub returns : goal.returns
returns c p h = streams_proper p h
