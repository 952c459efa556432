use Rattle.std.proofs.Common.{take}
use Rattle.sp_copy_nets.specs.Fits.{AreCopied, Promises, given_nets}
use Rattle.sp_copy_nets.proofs.numbers.open_slot.Given as goal

abbrev pub invariant-loop-index : goal.invariant-loop-index
invariant-loop-index l = record {
  copied : AreCopied (take l.index l.copies) l.nets.items;
  promises : Promises l.fn.builder l.builder (given_nets l.nets.items);
}
