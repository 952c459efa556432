use Rattle.std.proofs.Common.{take}
use Rattle.sp_gates.specs.Grows.{Fills}
use Rattle.sp_copy_nets.specs.Fits.{number_nets}
use Rattle.sp_copy_nets.specs.Numbers.{AllSlotsNumbered}
use Rattle.sp_copy_nets.proofs.numbers.close_numbers.Given as goal

abbrev pub invariant-loop-index : goal.invariant-loop-index
invariant-loop-index l = record {
  fills : Fills l.fn.builder l.builder (number_nets (take l.index l.numbers));
  numbered : AllSlotsNumbered l.builder l.start l.copies (take l.index l.firsts) (take l.index l.numbers) l.coming.items;
}
