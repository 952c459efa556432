use Rattle.std.proofs.Common.{◌≡◌, ℕ, length, take}
use Rattle.sp_op_nets.specs.Table.{nets_at}
use Rattle.sp_around_tables.proofs.table.same_table.Given as goal

abbrev pub invariant-loop-index : goal.invariant-loop-index
invariant-loop-index l = record {
  nets : (n : ℕ) → nets_at l.table.items n ≡ nets_at (take l.index l.around) n;
  many : length l.table.items ≡ l.index;
}
