use Rattle.std.proofs.Common.{◌≡◌, [], length, take}
use Rattle.sp_gates.specs.Grows.{Fills}
use Rattle.sp_pipe.specs.Acts.{AreActs, AreStages}
use Rattle.sp_pipe.proofs.body.emit_ops.Given as goal

abbrev pub invariant-loop-op : goal.invariant-loop-op
invariant-loop-op l = record {
  fills : Fills l.fn.builder l.builder [];
  each : length l.stages.items ≡ l.op-index;
  stages : AreStages l.builder l.stages.items l.ops;
  acts : AreActs l.builder l.fn.issue l.ops (take l.op-index l.ops) l.nets.items;
}
