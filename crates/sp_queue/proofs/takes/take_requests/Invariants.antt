use Rattle.std.proofs.Common.{[], take}
use Rattle.std.specs.List.{AllZip}
use Rattle.sp_gates.specs.Grows.{Fills}
use Rattle.sp_queue.specs.Takes.{IsTake}
use Rattle.sp_queue.proofs.takes.take_requests.Given as goal

abbrev pub invariant-loop-touch : goal.invariant-loop-touch
invariant-loop-touch l = record {
  fills : Fills l.fn.builder l.builder [];
  takes : AllZip (IsTake l.builder l.fn.zero) (take l.touch-index l.takes) l.list.items;
}
