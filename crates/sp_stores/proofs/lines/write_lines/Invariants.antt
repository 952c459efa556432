use Rattle.std.proofs.Common.{◌≡◌, [], length, All}
use Rattle.sp_gates.specs.Grows.{Fills}
use Rattle.sp_bank_ports.specs.Ports.{WriteFits}
use Rattle.sp_stores.specs.Lines.{AreWriteLines}
use Rattle.sp_stores.proofs.lines.write_lines.Given as goal

abbrev pub invariant-loop-i : goal.invariant-loop-i
invariant-loop-i l = record {
  fills : Fills l.fn.builder l.builder [];
  each : length l.ports.items ≡ l.i;
  fit : All (WriteFits l.builder l.fn.width) l.ports.items;
  lines : AreWriteLines l.builder l.fn.banks l.requests l.ports.items;
}
