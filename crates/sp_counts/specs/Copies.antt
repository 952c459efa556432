-- Copies of memories, without where they lie in memory.
use Rattle.std.specs.Prelude.{ℕ}
use Rattle.sp_counts.specs.declared.copies.Copies.{Copies}

abbrev pub copy_of : Copies → ℕ × ℕ
copy_of c = (c.mem, c.factor)
