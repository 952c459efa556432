use Rattle.std.proofs.Common.{length, ap, ◌∙◌}
use Rattle.std.proofs.lemmas.List.{length-replicate}
use Rattle.sp_seq.proofs.CellLemmas.{cells_from-fresh}
use Rattle.sp_seq.proofs.cells.Cells.new.Goals as goal

pub returns-clause-cells : goal.returns-clause-cells
returns-clause-cells c = cells_from-fresh c.args.len _ _ c.in_ok-marks.ensures.numbers (ap length c.in_ok-words.ensures.words ∙ length-replicate c.args.len 0)
