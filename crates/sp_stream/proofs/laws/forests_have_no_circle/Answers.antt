use Rattle.sp_stream.proofs.Circles.{forests_have_none, forest_without}
use Rattle.sp_stream.proofs.laws.forests_have_no_circle.Goals as goal

pub returns : goal.returns
returns c core nodes fifos d = (forests_have_none core nodes fifos, forest_without core nodes fifos d)
