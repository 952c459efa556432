use Rattle.sp_load_units.proofs.Drams.{drams_stand}
use Rattle.sp_load_units.proofs.laws.drams_stand.Goals as goal

pub returns : goal.returns
returns c = drams_stand
