use Rattle.std.proofs.Common.{◌≡◌, length, replicate, ap, ◌∙◌, arith}
use Rattle.sp_seq.proofs.CellLemmas.{length-cells, cells_from-fresh}
use Rattle.sp_seq.proofs.cells.Cells.clear.Goals as goal

pub returns-clause-cells : goal.returns-clause-cells
returns-clause-cells c =
    let ms = c.self.inside.marks.numbers in
    let ws = c.self.inside.words.words in
    let h = length-cells ms ws c.self.invariant.0 in
    let e = ap (λ r. length r.cells) c.self.view_is in
    let same : length ws ≡ length c.args.self.now.cells = omega arith in
    cells_from-fresh (length c.args.self.now.cells) _ ws (c.fill.ensures.numbers ∙ ap (λ n. replicate n 0) (c.self.invariant.0 ∙ same)) same
