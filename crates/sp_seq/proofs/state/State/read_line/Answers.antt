use Rattle.std.proofs.Common.{◌<◌, ◌∙◌, ap, length, get_or, None, subst}
use Rattle.std.proofs.lemmas.List.{get_or_read}
use Rattle.sp_seq.specs.declared.memory.Storage.TheVariants.{Rows}
use Rattle.sp_seq.specs.Rows.{CellRow, no_cells}
use Rattle.sp_seq.proofs.StoreLemmas.{live_as, same_rows}
use Rattle.sp_seq.proofs.AccessLemmas.{ran_read, read_line-went}
use Rattle.sp_seq.proofs.state.State.read_line.Goals as goal

pub returns-clause-ran : goal.returns-clause-ran
returns-clause-ran c =
    let a = c.args in
    let rs = c.in-Rows.rows in
    let live = live_as a.self.now a.memory c.index.result.now _ (Rows rs) c.requires.1 c.index.ensures c.in-Rows.is in
    let same = same_rows _ _ _ _ c.requires.1 live in
    let within : a.row < length rs.items = subst (λ xs. a.row < length xs) same c.requires.2 in
    let row = get_or_read rs.items a.row c.index-2.result.now within c.index-2.ensures no_cells in
    ran_read a.self.now a.place c.get.result _ _
    (read_line-went a.self.now a.memory a.row a.column a.place rs live within c.get.result (c.get.ensures.cell ∙ ap (λ (r : CellRow). get_or r.cells a.column None) row))
    c.written.ensures
