use Rattle.std.proofs.Common.{◌≡◌, ℕ, ◌%◌, ◌^◌, [], length, take, map, All}
use Rattle.sp_netlist.specs.Signals.{Signals}
use Rattle.sp_gates.specs.Nets.{HasNet}
use Rattle.sp_gates.specs.Runs.{RunsOn}
use Rattle.sp_gates.specs.Grows.{Fills}
use Rattle.sp_places.specs.Layouts.{words_at}
use Rattle.sp_places.proofs.sums.widen_all.Given as goal

abbrev pub invariant-loop-net : goal.invariant-loop-net
invariant-loop-net l = record {
  fills : Fills l.fn.builder l.builder [];
  each : length l.wide.items ≡ l.net-index;
  nets : All (λ net. HasNet l.builder net 64) l.wide.items;
  words : (s : Signals) → RunsOn s l.builder.cells → (t : ℕ) → words_at s t l.wide.items ≡ map (λ w. w % 2 ^ 64) (words_at s t (take l.net-index l.nets));
}
