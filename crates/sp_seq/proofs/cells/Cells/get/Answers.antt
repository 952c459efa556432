use Rattle.std.proofs.Common.{◌<◌, length, get_or, None, ap, ◌∙◌, sym, arith}
use Rattle.sp_seq.proofs.WordLemmas.{word_at}
use Rattle.sp_seq.proofs.CellLemmas.{length-cells, cell_at, cell_of, cell_of-marked, cell_of-unmarked}
use Rattle.sp_seq.proofs.cells.Cells.get.Goals as goal

pub get-requires : goal.get-requires
get-requires c =
    let h = length-cells c.self.inside.marks.numbers c.self.inside.words.words c.self.invariant.0 in
    let e = ap (λ r. length r.cells) c.self.view_is in
    omega arith

pub get-requires-then-get-eq1 : goal.get-requires-then-get-eq1
get-requires-then-get-eq1 c =
    let h = length-cells c.self.inside.marks.numbers c.self.inside.words.words c.self.invariant.0 in
    let e = ap (λ r. length r.cells) c.self.view_is in
    omega arith

pub returns-then-get-eq1-clause-cell : goal.returns-then-get-eq1-clause-cell
returns-then-get-eq1-clause-cell c =
    let ms = c.self.inside.marks.numbers in
    let ws = c.self.inside.words.words in
    let h = length-cells ms ws c.self.invariant.0 in
    let e = ap (λ r. length r.cells) c.self.view_is in
    let within : c.args.at < length ws = omega arith in
    let mark = word_at ms c.args.at c.get.result c.get.ensures.number in
    sym (cell_of-marked (get_or ms c.args.at 0) c.get-then-get-eq1.result (mark ∙ c.if-get-eq1.true))
    ∙ ap (λ w. cell_of (get_or ms c.args.at 0) w) c.get-then-get-eq1.ensures.word
    ∙ sym (cell_at ms ws c.args.at c.self.invariant.0 within) ∙ ap (λ r. get_or r.cells c.args.at None) c.self.view_is

pub returns-else-get-eq1-clause-cell : goal.returns-else-get-eq1-clause-cell
returns-else-get-eq1-clause-cell c =
    let ms = c.self.inside.marks.numbers in
    let ws = c.self.inside.words.words in
    let h = length-cells ms ws c.self.invariant.0 in
    let e = ap (λ r. length r.cells) c.self.view_is in
    let within : c.args.at < length ws = omega arith in
    let mark = word_at ms c.args.at c.get.result c.get.ensures.number in
    sym (cell_of-unmarked (get_or ms c.args.at 0) (get_or ws c.args.at 0) (λ one. c.if-get-eq1.false (sym mark ∙ one)))
    ∙ sym (cell_at ms ws c.args.at c.self.invariant.0 within) ∙ ap (λ r. get_or r.cells c.args.at None) c.self.view_is
