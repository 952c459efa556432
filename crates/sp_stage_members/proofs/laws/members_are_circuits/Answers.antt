use Rattle.sp_stage_members.proofs.Circuits.{members_are_circuits}
use Rattle.sp_stage_members.proofs.laws.members_are_circuits.Goals as goal

pub returns : goal.returns
returns c = members_are_circuits
