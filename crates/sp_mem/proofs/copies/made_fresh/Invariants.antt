use Rattle.std.proofs.Common.{◌≡◌, ℕ, [], take}
use Rattle.sp_netlist.specs.Signals.{Signals}
use Rattle.sp_gates.specs.Nets.{HasNet}
use Rattle.sp_gates.specs.Runs.{RunsOn}
use Rattle.sp_gates.specs.Grows.{Fills}
use Rattle.sp_mem.specs.Copies.{freshened}
use Rattle.sp_mem.proofs.copies.made_fresh.Given as goal

abbrev pub invariant-loop-f : goal.invariant-loop-f
invariant-loop-f l = record {
  fills : Fills l.fn.builder l.builder [];
  net : HasNet l.builder l.net l.fn.width;
  word : (s : Signals) → RunsOn s l.builder.cells → (t : ℕ) → s.net t l.net ≡ freshened s t l.fn.number (s.net t l.fn.first) (take l.f-index l.fresh) (s.net t l.fn.old);
}
