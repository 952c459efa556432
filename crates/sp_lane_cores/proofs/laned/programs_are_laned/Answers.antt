use Rattle.sp_lane_cores.proofs.LanedMarked.{programs_laned}
use Rattle.sp_lane_cores.proofs.laned.programs_are_laned.Goals as goal

pub returns : goal.returns
returns c p h = programs_laned p h
