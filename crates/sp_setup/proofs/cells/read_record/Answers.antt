use Rattle.std.proofs.Common.{◌∙◌, ◌++◌, length, drop, ap}
use Rattle.csv.specs.Records.{fields_of, field_at}
use Rattle.sp_words.specs.Ports.{plain_port}
use Rattle.sp_setup.specs.Refusal.{IsRefusal}
use Rattle.sp_setup.specs.Cells.{record_check, record_words}
use Rattle.sp_setup.proofs.Turns.{passed_on}
use Rattle.sp_setup.proofs.CellLemmas.{cell-more, cell-refused, cell-last}
use Rattle.sp_setup.proofs.cells.read_record.Goals as goal

pub loop-cell-init : goal.loop-cell-init
loop-cell-init c =
    let start = c.into_iter-cell-iterator.ensures.into_iter_gives in
    record {
      same = start.0;
      check = ap (λ i. record_check (plain_port c.args.port.now) c.args.row (length c.args.words.now.items) (drop i (fields_of c.args.cells.now))) start.1;
      words = ap (λ i. c.args.words.now.items ++ record_words c.args.port.now.ty (drop i (fields_of c.args.cells.now))) start.1;
    }

pub loop-cell-preserved : goal.loop-cell-preserved
loop-cell-preserved c =
    let inv = c.loop-cell.invariant in
    let s = rw c.in-Some.is at c.next.ensures.steps in
    let field = s.1 ∙ ap (λ row. field_at (fields_of row) c.loop-cell.cell-iterator.at) inv.same in
    let more = cell-more (plain_port c.args.port.now) c.args.row c.loop-cell.cell-iterator.at c.next.new.self.at (fields_of c.args.cells.now) c.in-Some.cell.now
    c.loop-cell.words.items c.read_cell.new.words.items _ _ s.2 field c.in_ok-read_cell.ensures.passes c.in_ok-read_cell.ensures.word inv.check inv.words in
    record { same = rw s.0 inv.same; check = more.0; words = more.1 }

pub returns-in_err-read_cell-clause-refused : goal.returns-in_err-read_cell-clause-refused
returns-in_err-read_cell-clause-refused c =
    let inv = c.loop-cell.invariant in
    let s = rw c.in-Some.is at c.next.ensures.steps in
    let field = s.1 ∙ ap (λ row. field_at (fields_of row) c.loop-cell.cell-iterator.at) inv.same in
    let h : IsRefusal (record_check (plain_port c.args.port.now) c.args.row (length c.args.words.now.items) (fields_of c.args.cells.now)) c.in_err-read_cell.field-0.0 =
    cell-refused (plain_port c.args.port.now) c.args.row c.loop-cell.cell-iterator.at (fields_of c.args.cells.now) c.in-Some.cell.now
    c.loop-cell.words.items _ _ field c.in_err-read_cell.ensures.refused inv.check in
    passed_on c.from_residual.result c.in_err-read_cell.field-0.0 _ _ c.from_residual.ensures.1 (λ y p. p) h

pub returns-clause-passes : goal.returns-clause-passes
returns-clause-passes c =
    let inv = c.loop-cell.invariant in
    let s = rw c.in-None.is at c.next.ensures.steps in
    let field = s.1 ∙ ap (λ row. field_at (fields_of row) c.loop-cell.cell-iterator.at) inv.same in
    (cell-last (plain_port c.args.port.now) c.args.row c.loop-cell.cell-iterator.at (fields_of c.args.cells.now) c.loop-cell.words.items _ _ field inv.check inv.words).0

pub returns-clause-words : goal.returns-clause-words
returns-clause-words c =
    let inv = c.loop-cell.invariant in
    let s = rw c.in-None.is at c.next.ensures.steps in
    let field = s.1 ∙ ap (λ row. field_at (fields_of row) c.loop-cell.cell-iterator.at) inv.same in
    (cell-last (plain_port c.args.port.now) c.args.row c.loop-cell.cell-iterator.at (fields_of c.args.cells.now) c.loop-cell.words.items _ _ field inv.check inv.words).1
