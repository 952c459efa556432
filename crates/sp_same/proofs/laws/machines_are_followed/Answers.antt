use Rattle.sp_same.proofs.Machines.{machine_goes}
use Rattle.sp_same.proofs.laws.machines_are_followed.Goals as goal

pub returns : goal.returns
returns c p roomy core body most view start tested test state last next b n place s after t left rest did h typed added before enough right a followed goes =
    machine_goes p core h roomy most view b n place start tested test state body last next typed added before followed s after t left rest did enough right a goes
