use Rattle.std.proofs.Common.{◌≡◌, take}
use Rattle.sp_stage_members.specs.Circuits.{masks_in}
use Rattle.sp_stage_members.specs.Members.{masks_of}
use Rattle.sp_loop_circuits.proofs.masks.lane_masks.Given as goal

abbrev pub invariant-loop-index : goal.invariant-loop-index
invariant-loop-index l = masks_of l.masks.items ≡ masks_in l.counted (take l.index l.rows)
