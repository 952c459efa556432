use Rattle.std.proofs.Common.{take}
use Rattle.sp_core.specs.Plain.{plain_ops}
use Rattle.sp_op_nets.specs.Nets.{AreNetsOf}
use Rattle.sp_op_nets.specs.Reserved.{Reserves, reserved_of}
use Rattle.sp_op_nets.proofs.nets.op_nets.Given as goal

abbrev pub invariant-loop-index : goal.invariant-loop-index
invariant-loop-index l = record {
  nets : AreNetsOf l.builder l.around (plain_ops (take l.index l.ops)) (take l.index l.afters) l.nets.items;
  reserves : Reserves l.fn.builder l.builder (reserved_of (plain_ops (take l.index l.ops)) l.nets.items);
}
