use Rattle.std.proofs.Common.{[], take}
use Rattle.sp_gates.specs.Grows.{Fills}
use Rattle.sp_stage_members.specs.Members.{masks_of, AreChainsOf}
use Rattle.sp_stage_members.specs.Placed.{chains_in}
use Rattle.sp_stage_members.proofs.members.slot_members.Given as goal

abbrev pub invariant-loop-index : goal.invariant-loop-index
invariant-loop-index l = record {
  fills : Fills l.fn.builder l.builder [];
  chains : AreChainsOf l.builder (masks_of l.masks) l.stages l.slot (chains_in (take l.index l.chains)) l.found.items;
}
