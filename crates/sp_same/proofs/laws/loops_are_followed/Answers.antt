use Rattle.sp_same.proofs.Controllers.{loop_goes}
use Rattle.sp_same.proofs.laws.loops_are_followed.Goals as goal

pub returns : goal.returns
returns c p roomy core body most view style loops b n place s after t left rest did h typed typed_body seen enough right a ready followed goes = loop_goes p core roomy most view b n place s after t left rest did enough right a h style loops body typed typed_body seen ready followed goes
