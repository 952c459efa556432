use Rattle.std.proofs.Common.{map, refl, sym, ◌∙◌, ap}
use Rattle.sp_words.specs.Memory.{rows}
use Rattle.sp_seq.specs.declared.memory.Storage.TheVariants.{Rows}
use Rattle.sp_seq.specs.Rows.{CellRow}
use Rattle.sp_seq.proofs.LineLemmas.{cells_written, rows_held}
use Rattle.sp_seq.proofs.StoreLemmas.{live_as, stored}
use Rattle.sp_seq.proofs.state.State.write_line.Goals as goal

pub returns-clause-wrote : goal.returns-clause-wrote
returns-clause-wrote c = λ older row e.
    let a = c.args in
    let s = a.self.now in
    let x = c.index_mut.result.now in
    let was = c.in-Rows.rows in
    let live = live_as s a.line x _ (Rows was) c.requires.1 c.index_mut.ensures.value c.in-Rows.is in
    stored s _ a.line x _ (Rows c.write_newest.new.rows) _ live c.index_mut.ensures.value refl refl refl
    (ap (λ items. rows (map (λ (r : CellRow). r.cells) items)) c.write_newest.ensures.rows ∙ ap rows (cells_written was.items older row a.column a.word (sym (rows_held s a.line was live) ∙ e)))
