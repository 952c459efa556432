use Rattle.sp_lane_groups.proofs.FirstRoot.{root_stands}
use Rattle.sp_lane_groups.proofs.resets.programs_stand.Goals as goal

pub returns : goal.returns
returns c p h = root_stands p (c.programs_are_plain.ensures p) h
