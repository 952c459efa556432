use Rattle.std.proofs.Common.{refl, inr}
use Rattle.sp_top.specs.Status.{memory}
use Rattle.sp_top.proofs.sinks.refuse.Goals as goal

-- there was no memory for a line with parts
pub returns-in-Err : goal.returns-in-Err
returns-in-Err g c = record { refused = (memory, inr (c.in_default.ensures, refl), c.put_line-in-Err.ensures) }
