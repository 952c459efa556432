use Rattle.std.proofs.Common.{arith}
use Rattle.std.proofs.lemmas.Grind.{common_steps}
use Rattle.sp_counts.proofs.TreeLemmas.{control_is_none}
use Rattle.sp_counts.proofs.tally.Tally.add_primitive.Goals as goal

pub returns-in-Control : goal.returns-in-Control
returns-in-Control c = rw (c.in-Control.is, control_is_none c.in-Control.field-0.value) (grind (arith, common_steps))
