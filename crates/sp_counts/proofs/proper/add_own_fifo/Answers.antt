use Rattle.std.proofs.Common.{◌++◌, map, ap, sym}
use Rattle.std.specs.Prelude.{filter}
use Rattle.sp_tree.specs.Expressions.{mem}
use Rattle.sp_tree.specs.Plain.{plain_mem}
use Rattle.sp_tree.specs.Streams.{is_fifo}
use Rattle.sp_counts.proofs.TreeLemmas.{control_owns_none}
use Rattle.sp_counts.proofs.proper.add_own_fifo.Goals as goal

pub returns-in-Control : goal.returns-in-Control
returns-in-Control c =
    rw c.in-Control.is (λ place rest. ap (λ ms. c.args.fifos.now.items ++ filter (λ m. is_fifo (mem (map plain_mem c.args.mems.now) m).kind) ms) (sym (control_owns_none place c.in-Control.field-0.value rest)))
