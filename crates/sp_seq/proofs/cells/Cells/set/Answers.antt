use Rattle.std.proofs.Common.{length, set, Some, ap, ap₂, ◌∙◌, arith}
use Rattle.sp_seq.specs.Rows.{cells_from}
use Rattle.sp_seq.proofs.CellLemmas.{length-cells, cells_from-set}
use Rattle.sp_seq.proofs.cells.Cells.set.Goals as goal

pub set-requires-clause-inside : goal.set-requires-clause-inside
set-requires-clause-inside c =
    let h = length-cells c.self.inside.marks.numbers c.self.inside.words.words c.self.invariant.0 in
    let e = ap (λ r. length r.cells) c.self.view_is in
    omega arith

pub set-requires-2-clause-inside : goal.set-requires-2-clause-inside
set-requires-2-clause-inside c =
    let h = length-cells c.self.inside.marks.numbers c.self.inside.words.words c.self.invariant.0 in
    let e = ap (λ r. length r.cells) c.self.view_is in
    omega arith

pub returns-clause-cells : goal.returns-clause-cells
returns-clause-cells c =
    ap₂ cells_from c.set-2.ensures.numbers c.set.ensures.words
    ∙ cells_from-set c.self.inside.marks.numbers c.self.inside.words.words c.args.at c.args.word c.self.invariant.0
    ∙ ap (λ r. set r.cells c.args.at (Some c.args.word)) c.self.view_is
