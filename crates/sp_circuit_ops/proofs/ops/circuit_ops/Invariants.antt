use Rattle.std.proofs.Common.{take}
use Rattle.sp_circuit_ops.specs.Circuit.{ArePlaced}
use Rattle.sp_circuit_ops.proofs.ops.circuit_ops.Given as goal

abbrev pub invariant-loop-index : goal.invariant-loop-index
invariant-loop-index l = ArePlaced (take l.index l.ops) l.times l.nets l.placed.items
