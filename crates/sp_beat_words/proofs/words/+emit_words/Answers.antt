use Rattle.std.proofs.Common.{◌-◌, length, take, drop, rules, sym, subst, arith}
use Rattle.sp_gates.specs.Grows.{Fills}
use Rattle.sp_gates.proofs.Growing.{Fills-none, Fills-join, HasNet-stays}
use Rattle.sp_gates.proofs.Running.{runs_earlier}
use Rattle.sp_sequence.proofs.Cycles.{first_and_rest, empty}
use Rattle.sp_beat_words.specs.Fits.{AreRows, IsRow, nets_of, row_nets}
use Rattle.sp_beat_words.specs.Words.{MoveOn, Takes}
use Rattle.sp_beat_words.proofs.Rows.{rows_parts, rows_kept}
use Rattle.sp_beat_words.proofs.words.+emit_words.Goals as goal

pub returns-in_default-clause-fills : goal.returns-in_default-clause-fills
returns-in_default-clause-fills t c = subst (λ xs. Fills c.args.builder.now c.args.builder.now (row_nets xs)) (sym (empty c.args.rows.now (let l = c.in_default.len_below in omega (arith, l)))) (Fills-none _)

pub emit_row-requires-clause-row : goal.emit_row-requires-clause-row
emit_row-requires-clause-row t c = subst (IsRow c.args.builder.now c.args.before.now) (sym c.deref.ensures.value) (rows_parts c.args.builder.now c.args.before.now c.row-item.result (take (length c.args.rows.now - 1) (drop 1 c.args.rows.now)) (subst (AreRows c.args.builder.now c.args.before.now) (first_and_rest c.args.rows.now c.row-item.result c.in-len1-up.len_at_least c.row-item.is) c.requires.rows)).0

pub emit_words-requires : goal.emit_words-requires
emit_words-requires t c = (search rules, (HasNet-stays _ _ _ _ c.in_ok-emit_row.ensures.fills.grows c.requires.step, subst (λ xs. AreRows c.emit_row.new.builder xs (take (length c.args.rows.now - 1) (drop 1 c.args.rows.now))) (sym c.deref-2.ensures.value) (rows_kept _ _ _ _ _ (subst (λ xs. Fills c.args.builder.now c.emit_row.new.builder (nets_of xs)) c.deref.ensures.value c.in_ok-emit_row.ensures.fills) (rows_parts c.args.builder.now c.args.before.now c.row-item.result (take (length c.args.rows.now - 1) (drop 1 c.args.rows.now)) (subst (AreRows c.args.builder.now c.args.before.now) (first_and_rest c.args.rows.now c.row-item.result c.in-len1-up.len_at_least c.row-item.is) c.requires.rows)).1 (rows_parts c.args.builder.now c.args.before.now c.row-item.result (take (length c.args.rows.now - 1) (drop 1 c.args.rows.now)) (subst (AreRows c.args.builder.now c.args.before.now) (first_and_rest c.args.rows.now c.row-item.result c.in-len1-up.len_at_least c.row-item.is) c.requires.rows)).2)))

pub returns-clause-fills : goal.returns-clause-fills
returns-clause-fills t c = subst (λ xs. Fills c.args.builder.now c.emit_words.new.builder (row_nets xs)) (sym (first_and_rest c.args.rows.now c.row-item.result c.in-len1-up.len_at_least c.row-item.is)) (Fills-join _ _ _ (nets_of c.row-item.result.wires.items) (row_nets (take (length c.args.rows.now - 1) (drop 1 c.args.rows.now))) (subst (λ xs. Fills c.args.builder.now c.emit_row.new.builder (nets_of xs)) c.deref.ensures.value c.in_ok-emit_row.ensures.fills) c.in_ok-emit_words.ensures.fills)

pub returns-clause-moves : goal.returns-clause-moves
returns-clause-moves t c = λ s r.
    let r_row = runs_earlier _ _ s c.in_ok-emit_words.ensures.fills.grows r in
    subst (MoveOn s c.args.step c.args.before.now) (sym (first_and_rest c.args.rows.now c.row-item.result c.in-len1-up.len_at_least c.row-item.is))
    (subst (Takes s c.args.step c.args.before.now) c.deref.ensures.value (c.in_ok-emit_row.ensures.takes s r_row), subst (λ xs. MoveOn s c.args.step xs (take (length c.args.rows.now - 1) (drop 1 c.args.rows.now))) c.deref-2.ensures.value (c.in_ok-emit_words.ensures.moves s r))
