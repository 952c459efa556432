use Rattle.std.proofs.Common.{◌≡◌, ℕ, [], take}
use Rattle.sp_netlist.specs.Signals.{Signals}
use Rattle.sp_gates.specs.Nets.{HasNet}
use Rattle.sp_gates.specs.Runs.{RunsOn}
use Rattle.sp_gates.specs.Grows.{Fills}
use Rattle.sp_mem.specs.Copies.{written}
use Rattle.sp_queue_copies.proofs.events.word_put.Given as goal

abbrev pub invariant-loop-p : goal.invariant-loop-p
invariant-loop-p l = record {
  fills : Fills l.fn.builder l.builder [];
  net : HasNet l.builder l.net l.fn.width;
  word : (s : Signals) → RunsOn s l.builder.cells → (t : ℕ) → s.net t l.net ≡ written s t l.fn.number (take l.p-index l.puts) 0;
}
