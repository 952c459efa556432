use Rattle.std.proofs.Common.{sym, ap, ◌∙◌}
use Rattle.sp_tree.specs.PlainTree.{plain_stmt_kind}
use Rattle.sp_sugar.specs.Uses.{renamed}
use Rattle.sp_desugar.proofs.UseLemmas.{control_renames}
use Rattle.sp_desugar.specs.Names.{among}
use Rattle.sp_desugar.proofs.uses.rename_in.Goals as goal

pub returns-in-Control : goal.returns-in-Control
returns-in-Control c =
    sym (control_renames (among c.args.names.now.items) c.in-Control.field-0.value)
    ∙ ap (λ kind. renamed (among c.args.names.now.items) (plain_stmt_kind kind)) (sym c.in-Control.is)
