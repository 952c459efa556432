use Rattle.sp_same.proofs.Controllers.{block_goes}
use Rattle.sp_same.proofs.laws.blocks_are_followed.Goals as goal

pub returns : goal.returns
returns c p roomy core body most view style b n place s after t left rest did none enough right a followed goes = block_goes p core roomy most view b n place s after t left rest did enough right a style body none followed goes
