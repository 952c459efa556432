use Rattle.std.proofs.Common.{◌≡◌, ℕ, ◌<◌, [], length, slice_index, All}
use Rattle.sp_words.specs.Types.{width_of}
use Rattle.sp_netlist.specs.Signals.{Signals}
use Rattle.sp_gates.specs.Nets.{HasNet}
use Rattle.sp_gates.specs.Runs.{RunsOn}
use Rattle.sp_gates.specs.Grows.{Fills}
use Rattle.sp_mem.specs.Runs.{RunsCopy}
use Rattle.sp_mem.proofs.copies.emit_copies.Given as goal

abbrev pub invariant-loop-number : goal.invariant-loop-number
invariant-loop-number l = record {
  fills : Fills l.initial.builder l.builder [];
  each : length l.nets.items ≡ l.number;
  nets : All (λ net. HasNet l.builder net (width_of l.part.ty)) l.nets.items;
  runs : (s : Signals) → RunsOn s l.builder.cells → (copy : ℕ) → copy < l.number → RunsCopy s l.part copy (slice_index l.nets.items copy);
}
