use Rattle.std.proofs.Common.{[], take}
use Rattle.sp_gates.specs.Grows.{Fills}
use Rattle.sp_stage_members.specs.Members.{masks_of, AreSlotsOf}
use Rattle.sp_stage_members.specs.Placed.{places_of}
use Rattle.sp_stage_members.proofs.members.stage_members.Given as goal

abbrev pub invariant-loop-index : goal.invariant-loop-index
invariant-loop-index l = record {
  fills : Fills l.fn.builder l.builder [];
  slots : AreSlotsOf l.builder (masks_of l.masks) l.stages (places_of (take l.index l.places)) l.slots.items;
}
