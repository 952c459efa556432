use Rattle.std.proofs.Common.{[]}
use Rattle.sp_gates.specs.Grows.{Fills}
use Rattle.sp_counters.specs.Pieces.{AreMasks}
use Rattle.sp_counters.proofs.masks.emit_masks.Given as goal

abbrev pub invariant-loop-lane : goal.invariant-loop-lane
invariant-loop-lane l = record {
  fills : Fills l.fn.builder l.builder [];
  masks : AreMasks l.builder l.count l.counter l.masks.items l.lane;
}
