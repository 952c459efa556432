use Rattle.sp_lane_programs.proofs.LanesTree.{program_by}
use Rattle.sp_lane_programs.proofs.lanes.programs_are_by_lane.Goals as goal

pub returns : goal.returns
returns c p h = program_by p (c.branches_stand.ensures _) (c.fsms_stand.ensures _) (c.outers_stand.ensures _) (c.programs_stand.ensures p h) h
