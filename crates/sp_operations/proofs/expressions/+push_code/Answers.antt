use Rattle.std.proofs.Common.{arith, ap, ◌∙◌}
use Rattle.std.proofs.lemmas.Grind.{common_steps}
use Rattle.sp_tree.specs.Plain.{plain_kind}
use Rattle.sp_sugar.specs.Operations.{code, code_of, codes}
use Rattle.sp_operations.proofs.TreeLemmas.{plain_get_sram}
use Rattle.sp_operations.proofs.expressions.+push_code.Goals as goal

pub push_kind-returns-in_ok-places-in-GetSram-clause-ops :
    goal.push_kind-returns-in_ok-places-in-GetSram-clause-ops
unfolding code code_of codes
push_kind-returns-in_ok-places-in-GetSram-clause-ops t c =
    let e = ap plain_kind c.in-GetSram.is ∙ plain_get_sram c.in-GetSram.m c.in-GetSram.indices in
    rw e (grind (arith, common_steps))

pub push_kind-returns-in_ok-places-in-GetSram-clause-word :
    goal.push_kind-returns-in_ok-places-in-GetSram-clause-word
unfolding code code_of codes
push_kind-returns-in_ok-places-in-GetSram-clause-word t c =
    let e = ap plain_kind c.in-GetSram.is ∙ plain_get_sram c.in-GetSram.m c.in-GetSram.indices in
    rw e (grind (arith, common_steps))
