use Rattle.std.proofs.Common.{◌≡◌, ℕ, ◌+◌, ◌*◌, ◌%◌, ◌^◌, [], take}
use Rattle.sp_bank.specs.Places.{product_of, IsInside, row_major}
use Rattle.sp_netlist.specs.Signals.{Signals}
use Rattle.sp_gates.specs.Nets.{HasNet}
use Rattle.sp_gates.specs.Runs.{RunsOn}
use Rattle.sp_gates.specs.Grows.{Fills}
use Rattle.sp_places.specs.Layouts.{words_at}
use Rattle.sp_places.proofs.sums.row_number.Given as goal

abbrev pub invariant-loop-i : goal.invariant-loop-i
invariant-loop-i l = record {
  fills : Fills l.fn.builder l.builder [];
  net : HasNet l.builder l.number 64;
  word : (s : Signals) → RunsOn s l.builder.cells → (t : ℕ) → IsInside l.dims (words_at s t l.nets)
      → s.net t l.number % 2 ^ 64 ≡ (s.net t l.fn.start * product_of (take l.i l.dims) + row_major (take l.i l.dims) (take l.i (words_at s t l.nets))) % 2 ^ 64;
}
