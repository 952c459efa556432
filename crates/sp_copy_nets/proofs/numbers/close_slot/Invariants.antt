use Rattle.std.proofs.Common.{take}
use Rattle.sp_gates.specs.Grows.{Fills}
use Rattle.sp_copy_nets.specs.Fits.{given_nets}
use Rattle.sp_copy_nets.specs.Numbers.{AllNumbered}
use Rattle.sp_copy_nets.proofs.numbers.close_slot.Given as goal

abbrev pub invariant-loop-index : goal.invariant-loop-index
invariant-loop-index l = record {
  fills : Fills l.fn.builder l.builder (given_nets (take l.index l.slot.nets.items));
  numbered : AllNumbered l.builder l.start l.first (take l.index l.copies) (take l.index l.slot.nets.items) l.nets.items;
}
