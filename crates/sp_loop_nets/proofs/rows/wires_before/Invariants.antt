use Rattle.std.proofs.Common.{◌≡◌, ◌++◌, take}
use Rattle.sp_loop_nets.specs.Fits.{mask_wires, value_wires}
use Rattle.sp_loop_nets.proofs.rows.wires_before.Given as goal

abbrev pub invariant-loop-index : goal.invariant-loop-index
invariant-loop-index l = l.wires.items ≡ value_wires (take l.index l.counted.counters.items)

abbrev pub invariant-loop-index-2 : goal.invariant-loop-index-2
invariant-loop-index-2 l = l.wires.items ≡ value_wires l.counted.counters.items ++ mask_wires (take l.index l.counted.masks.items)
