use Rattle.std.proofs.Common.{◌≡◌, length, All}
use Rattle.sp_copy_nets.specs.declared.part.SlotNumbers.{SlotNumbers}
use Rattle.sp_copy_nets.specs.Fits.{AreCopied, Promises, number_nets}
use Rattle.sp_copy_nets.proofs.numbers.open_numbers.Given as goal

abbrev pub invariant-loop-slot : goal.invariant-loop-slot
invariant-loop-slot l = record {
  copied : All (λ (slot : SlotNumbers). AreCopied l.copies slot.nets.items) l.numbers.items;
  promises : Promises l.fn.builder l.builder (number_nets l.numbers.items);
  each : length l.numbers.items ≡ l._slot;
}
