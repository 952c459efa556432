use Rattle.sp_lane_cores.proofs.LanedLight.{program_light}
use Rattle.sp_lane_cores.proofs.laned.programs_are_light.Goals as goal

pub returns : goal.returns
returns c p h = program_light p h
