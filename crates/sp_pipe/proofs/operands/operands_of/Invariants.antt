use Rattle.std.proofs.Common.{[]}
use Rattle.sp_gates.specs.Grows.{Fills}
use Rattle.sp_pipe.specs.Acts.{AreOperandsTo}
use Rattle.sp_pipe.proofs.operands.operands_of.Given as goal

abbrev pub invariant-loop-i : goal.invariant-loop-i
invariant-loop-i l = record {
  fills : Fills l.fn.builder l.builder [];
  taken : AreOperandsTo l.builder l.ops l.op l.nets.items l.i;
}
