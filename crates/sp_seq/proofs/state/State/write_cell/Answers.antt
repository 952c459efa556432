use Rattle.std.proofs.Common.{refl, ◌∙◌, ap}
use Rattle.sp_words.specs.Memory.{cells}
use Rattle.sp_tree.specs.Step.{went}
use Rattle.sp_seq.specs.declared.memory.Storage.TheVariants.{Cells}
use Rattle.sp_seq.proofs.StoreLemmas.{live_as, stored}
use Rattle.sp_seq.proofs.AccessLemmas.{write_cell-went}
use Rattle.sp_seq.proofs.state.State.write_cell.Goals as goal

pub returns-clause-ran : goal.returns-clause-ran
returns-clause-ran c =
    let a = c.args in
    let x = c.index_mut.result.now in
    let live = live_as a.self.now a.memory x _ (Cells c.in-Cells.cells) c.requires.1 c.index_mut.ensures.value c.in-Cells.is in
    write_cell-went a.self.now a.memory a.at a.word c.in-Cells.cells live
    ∙ ap (went tt a.self.now.left) (stored a.self.now _ a.memory x _ (Cells c.set.new.self) _ live c.index_mut.ensures.value refl refl refl (ap cells c.set.ensures.cells))
