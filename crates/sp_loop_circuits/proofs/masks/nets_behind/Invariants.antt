use Rattle.std.proofs.Common.{◌≡◌, drop, take}
use Rattle.sp_node_runs.specs.BodiesRows.{wires_of}
use Rattle.sp_loop_circuits.proofs.masks.nets_behind.Given as goal

abbrev pub invariant-loop-index : goal.invariant-loop-index
invariant-loop-index l = l.nets.items ≡ drop l.count (wires_of (take l.index l.wires))
