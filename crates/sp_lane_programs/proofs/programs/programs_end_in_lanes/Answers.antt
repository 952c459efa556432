use Rattle.sp_lane_programs.proofs.ProgramsWhole.{program_ends}
use Rattle.sp_lane_programs.proofs.programs.programs_end_in_lanes.Goals as goal

pub returns : goal.returns
returns c p h = program_ends p (c.programs_end.ensures p h) (c.programs_go.ensures p h) h
