use Rattle.sp_sugar.specs.Core.{core_of}
use Rattle.sp_lane_programs.proofs.TimedPrograms.{program_timed}
use Rattle.sp_lane_programs.proofs.timed.programs_are_timed.Goals as goal

pub returns : goal.returns
returns c p h timed = c.nodes_are_timed.ensures (core_of p) (program_timed p h timed)
