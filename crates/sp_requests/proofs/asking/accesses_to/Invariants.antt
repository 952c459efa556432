use Rattle.std.proofs.Common.{◌≡◌, ℕ, [], length, take, All}
use Rattle.std.specs.List.{AllZip}
use Rattle.sp_netlist.specs.Signals.{Signals}
use Rattle.sp_gates.specs.Grows.{Fills}
use Rattle.sp_gates.specs.Runs.{RunsOn}
use Rattle.sp_access.specs.Asking.{AccessFits}
use Rattle.sp_requests.specs.Requests.{Asks}
use Rattle.sp_requests.proofs.asking.accesses_to.Given as goal

abbrev pub invariant-loop-r : goal.invariant-loop-r
invariant-loop-r l = record {
  fills : Fills l.fn.builder l.builder [];
  each : length l.list.items ≡ l.r-index;
  fit : All (AccessFits l.builder) l.list.items;
  accesses : (s : Signals) → RunsOn s l.builder.cells → (t : ℕ) → AllZip (Asks s t l.copy l.bank) (take l.r-index l.requests) l.list.items;
}
