use Rattle.std.proofs.Common.{◌≡◌, ℕ, ◌%◌, ◌^◌, [], take}
use Rattle.sp_bank.specs.Places.{weighted}
use Rattle.sp_netlist.specs.Signals.{Signals}
use Rattle.sp_gates.specs.Nets.{HasNet}
use Rattle.sp_gates.specs.Runs.{RunsOn}
use Rattle.sp_gates.specs.Grows.{Fills}
use Rattle.sp_places.specs.Layouts.{words_at}
use Rattle.sp_places.proofs.sums.weighted_sum.Given as goal

abbrev pub invariant-loop-i : goal.invariant-loop-i
invariant-loop-i l = record {
  fills : Fills l.fn.builder l.builder [];
  net : HasNet l.builder l.total 64;
  word : (s : Signals) → RunsOn s l.builder.cells → (t : ℕ) → s.net t l.total ≡ weighted (take l.i l.weights) (take l.i (words_at s t l.nets)) % 2 ^ 64;
}
