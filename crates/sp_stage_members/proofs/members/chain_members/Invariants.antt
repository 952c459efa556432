use Rattle.std.proofs.Common.{[], take}
use Rattle.sp_gates.specs.Grows.{Fills}
use Rattle.sp_stage_members.specs.Members.{masks_of, AreMembersOf}
use Rattle.sp_stage_members.proofs.members.chain_members.Given as goal

abbrev pub invariant-loop-number : goal.invariant-loop-number
invariant-loop-number l = record {
  fills : Fills l.fn.builder l.builder [];
  members : AreMembersOf l.builder (masks_of l.masks) l.stages l.slot (take l.number l.chain) l.members.items;
}
