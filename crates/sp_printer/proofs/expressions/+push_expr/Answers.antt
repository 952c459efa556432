use Rattle.std.proofs.Common.{arith, ap, ◌∙◌}
use Rattle.std.proofs.lemmas.Grind.{common_steps}
use Rattle.sp_tree.specs.Plain.{plain_kind}
use Rattle.sp_printer.proofs.TreeLemmas.{plain_get_sram}
use Rattle.sp_printer.proofs.expressions.+push_expr.Goals as goal

pub push_kind-returns-in_ok-push_str-in-GetSram-2 :
    goal.push_kind-returns-in_ok-push_str-in-GetSram-2
push_kind-returns-in_ok-push_str-in-GetSram-2 t c =
    let e = ap plain_kind c.in-GetSram.is ∙ plain_get_sram c.in-GetSram.m c.in-GetSram.indices in
    rw e (grind (arith, common_steps))
