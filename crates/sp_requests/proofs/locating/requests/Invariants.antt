use Rattle.std.proofs.Common.{[], take}
use Rattle.std.specs.List.{AllZip}
use Rattle.sp_gates.specs.Grows.{Fills}
use Rattle.sp_requests.specs.Requests.{IsRequest}
use Rattle.sp_requests.proofs.locating.requests.Given as goal

abbrev pub invariant-loop-touch : goal.invariant-loop-touch
invariant-loop-touch l = record {
  fills : Fills l.fn.builder l.builder [];
  requests : AllZip (IsRequest l.builder l.layout) (take l.touch-index l.touches) l.list.items;
}
