use Rattle.std.proofs.Common.{◌≡◌, take}
use Rattle.sp_node_runs.specs.BodiesRows.{wires_of}
use Rattle.sp_loop_nets.proofs.slots.wire_nets.Given as goal

abbrev pub invariant-loop-index : goal.invariant-loop-index
invariant-loop-index l = l.nets.items ≡ wires_of (take l.index l.wires)
