use Rattle.std.proofs.Common.{◌∙◌, ap}
use Rattle.sp_tree.specs.Plain.{plain_exprs}
use Rattle.sp_tree.specs.PlainExpression.{get_sram}
use Rattle.sp_typed.proofs.RowLemmas.{sram_of}
use Rattle.sp_typed.proofs.expression.sram_element.Goals as goal

pub returns : goal.returns
returns c = sram_of c.new-2.result c.args.indices ∙ ap (λ m. get_sram m (plain_exprs c.args.indices.items)) (c.new-2.ensures ∙ c.new.ensures)
