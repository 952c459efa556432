use Rattle.std.proofs.Common.{ap, ◌∙◌, arith}
use Rattle.std.proofs.lemmas.Grind.{common_steps}
use Rattle.sp_tree.specs.Plain.{plain_kind}
use Rattle.sp_desugar.proofs.TreeLemmas.{plain_get_sram}
use Rattle.sp_desugar.proofs.uses.+uses.Goals as goal

pub kind_uses-returns-in-GetSram : goal.kind_uses-returns-in-GetSram
kind_uses-returns-in-GetSram t c =
    let e = ap plain_kind c.in-GetSram.is ∙ plain_get_sram c.in-GetSram.field-0 c.in-GetSram.indices in
    rw e (grind (arith, common_steps))
