use Rattle.sp_seq.specs.declared.memory.Storage.TheVariants.{Cells}
use Rattle.sp_seq.proofs.StoreLemmas.{live_as}
use Rattle.sp_seq.proofs.AccessLemmas.{ran_read, read_cell-went}
use Rattle.sp_seq.proofs.state.State.read_cell.Goals as goal

pub returns-clause-ran : goal.returns-clause-ran
returns-clause-ran c =
    let a = c.args in
    let live = live_as a.self.now a.memory c.index.result.now _ (Cells c.in-Cells.cells) c.requires.1 c.index.ensures c.in-Cells.is in
    ran_read a.self.now a.place c.get.result _ _ (read_cell-went a.self.now a.memory a.at a.place c.in-Cells.cells live c.get.result c.get.ensures.cell) c.written.ensures
