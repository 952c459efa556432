-- Counts as plain values.
use Rattle.std.specs.Prelude.{Option, Some, None}
use Rattle.sp_reader.specs.declared.limits.Counts.{Counts}
use Rattle.sp_reader.specs.Limits.{PlainCounts}

abbrev pub plain_counts : Counts → PlainCounts
plain_counts c = record { around = c.around.items; here = c.here }

abbrev pub plain_some : Option Counts → Option PlainCounts
plain_some None = None
plain_some (Some c) = Some (plain_counts c)
