use Rattle.std.proofs.Common.{◌≡◌, length}
use Rattle.sp_copy_nets.proofs.Tables.{nothing}
use Rattle.sp_copy_nets.proofs.table.no_number_table.Given as goal

abbrev pub invariant-loop-memory : goal.invariant-loop-memory
invariant-loop-memory l = record {
  none : l.nets.items ≡ nothing l._memory;
  each : length l.nets.items ≡ l._memory;
}
