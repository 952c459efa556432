use Rattle.std.proofs.Common.{◌++◌, ◌∷◌, [], map, drop, get_or, refl, ◌∙◌, ap}
use Rattle.sp_words.specs.Memory.{rows}
use Rattle.sp_tree.specs.Store.{hold}
use Rattle.sp_seq.specs.declared.memory.Storage.TheVariants.{Rows}
use Rattle.sp_seq.specs.Rows.{CellRow, no_cells}
use Rattle.sp_seq.specs.States.{blank, store_of}
use Rattle.sp_seq.proofs.StoreLemmas.{live_as, same_rows, stored}
use Rattle.sp_seq.proofs.state.State.shift_line.Goals as goal

pub returns-clause-store : goal.returns-clause-store
returns-clause-store c = λ rs h.
    let a = c.args in
    let s = a.self.now in
    let x = c.index_mut.result.now in
    let live = live_as s a.line x _ (Rows c.in-Rows.rows) c.requires.1 c.index_mut.ensures.value c.in-Rows.is in
    ap (λ items. hold (store_of s) a.line (rows (map (λ (r : CellRow). r.cells) (drop 1 items ++ blank (get_or items 0 no_cells) ∷ [])))) (same_rows s a.line rs c.in-Rows.rows h live)
    ∙ stored s _ a.line x _ (Rows c.shift.new.rows) _ live c.index_mut.ensures.value refl refl refl (ap (λ items. rows (map (λ (r : CellRow). r.cells) items)) c.shift.ensures.rows)
