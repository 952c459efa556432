use Rattle.std.proofs.Common.{arith, ap, ◌∙◌}
use Rattle.std.proofs.lemmas.Grind.{common_steps}
use Rattle.sp_tree.specs.Plain.{plain_kind}
use Rattle.sp_counts.proofs.TreeLemmas.{plain_get_sram}
use Rattle.sp_counts.proofs.tally.Tally.+add_expr.Goals as goal

pub add_expr-returns-in_ok-add_exprs-in-GetSram : goal.add_expr-returns-in_ok-add_exprs-in-GetSram
add_expr-returns-in_ok-add_exprs-in-GetSram t c =
    let e = ap plain_kind c.in-GetSram.is ∙ plain_get_sram c.in-GetSram.m c.in-GetSram.indices in
    rw e (grind (arith, common_steps))
