use Rattle.std.proofs.Common.{sym, ◌∙◌, ap, map, subst}
use Rattle.sp_words.specs.Memory.{rows}
use Rattle.sp_seq.specs.Rows.{CellRow}
use Rattle.sp_seq.specs.States.{cleared, IsStorage}
use Rattle.sp_seq.proofs.BeginLemmas.{map-blank, rows_stored}
use Rattle.sp_seq.proofs.memory.clear.Goals as goal

pub returns-in-Rows-clause-contents : goal.returns-in-Rows-clause-contents
returns-in-Rows-clause-contents c =
    ap (λ rs. rows (map (λ (r : CellRow). r.cells) rs)) c.clear_rows.ensures ∙ ap rows (map-blank c.in-Rows.rows.items) ∙ ap (cleared c.args.start) (sym c.in-Rows.is)

pub returns-in-Rows-clause-stored : goal.returns-in-Rows-clause-stored
returns-in-Rows-clause-stored c = λ d n kind h. rows_stored d n kind c.in-Rows.rows c.clear_rows.new.rows c.clear_rows.ensures (subst (IsStorage d n kind) c.in-Rows.is h)
