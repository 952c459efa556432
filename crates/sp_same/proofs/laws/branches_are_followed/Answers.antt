use Rattle.sp_same.proofs.Controllers.{branch_goes}
use Rattle.sp_same.proofs.laws.branches_are_followed.Goals as goal

pub returns : goal.returns
returns c p roomy core test most view first second b n place s after t left rest did h typed enough right a one two goes = branch_goes p core roomy most view b n place s after t left rest did enough right a h test first second typed one two goes
