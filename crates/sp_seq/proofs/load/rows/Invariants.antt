use Rattle.std.proofs.Common.{◌≡◌, length, All}
use Rattle.sp_seq.proofs.load.rows.Given as goal

abbrev pub invariant-loop-row : goal.invariant-loop-row
invariant-loop-row l = (length l.rows.items ≡ l._row) × All (λ row. (row.width ≡ l.width) × (length row.cells ≡ l.len)) l.rows.items
