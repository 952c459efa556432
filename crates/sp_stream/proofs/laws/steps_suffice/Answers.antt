use Rattle.sp_stream.proofs.Trails.{enough}
use Rattle.sp_stream.proofs.laws.steps_suffice.Goals as goal

pub returns : goal.returns
returns c core nodes fifos n a b h = enough core nodes fifos b n a h
