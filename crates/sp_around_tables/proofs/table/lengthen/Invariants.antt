use Rattle.std.proofs.Common.{◌≡◌, ℕ, ◌≤◌, length}
use Rattle.sp_op_nets.specs.Table.{nets_at}
use Rattle.sp_around_tables.proofs.table.lengthen.Given as goal

abbrev pub invariant-loop : goal.invariant-loop
invariant-loop l = record {
  nets : (n : ℕ) → nets_at l.table.items n ≡ nets_at l.fn.table.items n;
  longer : length l.fn.table.items ≤ length l.table.items;
  many : length l.table.items ≡ l.counter;
}
