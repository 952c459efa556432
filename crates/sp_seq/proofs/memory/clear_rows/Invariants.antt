use Rattle.std.proofs.Common.{◌≡◌, take, drop, map, length}
use Rattle.sp_seq.specs.States.{blank}
use Rattle.sp_seq.proofs.memory.clear_rows.Given as goal

abbrev pub invariant-loop-row : goal.invariant-loop-row
invariant-loop-row l = (take l.row-index l.row-items ≡ map blank (take l.row-index l.fn.rows.items)) × (drop l.row-index l.row-items ≡ drop l.row-index l.fn.rows.items) × (length l.row-items ≡ length l.fn.rows.items)
