use Rattle.std.proofs.Common.{◌++◌, map, sym, ap, ◌∙◌}
use Rattle.sp_tree.specs.Plain.{plain_mem}
use Rattle.sp_tree.specs.PlainStatement.{stmt, more_stmt}
use Rattle.sp_tree.specs.PlainTree.{plain_stmt_kind}
use Rattle.sp_tree.specs.Structure.{own_mems}
use Rattle.sp_sugar.specs.Numbers.{mem_number}
use Rattle.sp_desugar.proofs.CombineLemmas.{control_owns_none}
use Rattle.sp_desugar.proofs.combines.push_declared.Goals as goal

pub returns-in-Control : goal.returns-in-Control
returns-in-Control c = λ place rest.
    ap (λ ms. c.args.out.now.items ++ map (mem_number (map plain_mem c.args.mems.now)) ms) (sym (control_owns_none c.in-Control.field-0.value place rest))
    ∙ ap (λ k. c.args.out.now.items ++ map (mem_number (map plain_mem c.args.mems.now)) (own_mems (more_stmt (stmt place (plain_stmt_kind k)) rest))) (sym c.in-Control.is)
