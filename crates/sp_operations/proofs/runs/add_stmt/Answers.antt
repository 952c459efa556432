use Rattle.std.proofs.Common.{map, sym, ap, ◌∙◌}
use Rattle.sp_tree.specs.Plain.{plain_mem}
use Rattle.sp_tree.specs.PlainTree.{plain_stmt_kind}
use Rattle.sp_sugar.specs.Runs.{with_stmt}
use Rattle.sp_operations.proofs.RunLemmas.{control_adds}
use Rattle.sp_operations.specs.Running.{run_of}
use Rattle.sp_operations.proofs.runs.add_stmt.Goals as goal

pub returns-in-Control : goal.returns-in-Control
returns-in-Control c =
    sym (control_adds (map plain_mem c.args.mems.now) c.args.is_inner c.args.register (run_of c.args.run.now) c.in-Control.field-0.value)
    ∙ ap (λ kind. with_stmt (map plain_mem c.args.mems.now) c.args.is_inner c.args.register (run_of c.args.run.now) (plain_stmt_kind kind)) (sym c.in-Control.is)
