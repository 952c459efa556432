use Rattle.std.proofs.Common.{◌-◌, [], ◌∷◌, length, take, drop, rules, sym, subst, arith}
use Rattle.sp_gates.specs.Grows.{Fills}
use Rattle.sp_gates.proofs.Growing.{Fills-none, Fills-join, HasNet-stays}
use Rattle.sp_gates.proofs.Running.{runs_earlier}
use Rattle.sp_sequence.proofs.Cycles.{first_and_rest, empty}
use Rattle.sp_sequence.proofs.Waiting.{one_net}
use Rattle.sp_beat_words.specs.Fits.{IsRow, nets_of}
use Rattle.sp_beat_words.specs.Words.{Takes}
use Rattle.sp_beat_words.proofs.Rows.{row_parts, row_kept, takes_none}
use Rattle.sp_beat_words.proofs.words.+emit_row.Goals as goal

pub returns-in_default-clause-fills : goal.returns-in_default-clause-fills
returns-in_default-clause-fills t c = subst (λ xs. Fills c.args.builder.now c.args.builder.now (nets_of xs)) (sym (empty c.args.wires.now (let l = c.in_default.len_below in omega (arith, l)))) (Fills-none _)

pub returns-in_default-clause-takes : goal.returns-in_default-clause-takes
returns-in_default-clause-takes t c = λ s r. subst (Takes s c.args.step c.args.before.now) (sym (empty c.args.wires.now (let l = c.in_default.len_below in omega (arith, l)))) (takes_none s c.args.step c.args.before.now)

pub drive-requires-clause-next : goal.drive-requires-clause-next
drive-requires-clause-next t c = (row_parts c.args.builder.now c.from-item.result c.wire-item.result (take (length c.args.before.now - 1) (drop 1 c.args.before.now)) (take (length c.args.wires.now - 1) (drop 1 c.args.wires.now)) (subst (λ xs. IsRow c.args.builder.now xs (c.wire-item.result ∷ (take (length c.args.wires.now - 1) (drop 1 c.args.wires.now)))) (first_and_rest c.args.before.now c.from-item.result c.in-len1-up-before.len_at_least c.from-item.is) (subst (IsRow c.args.builder.now c.args.before.now) (first_and_rest c.args.wires.now c.wire-item.result c.in-len1-up.len_at_least c.wire-item.is) c.requires.row))).from

pub emit_row-requires : goal.emit_row-requires
emit_row-requires t c = (search rules, (HasNet-stays _ _ _ _ c.in_ok-drive.ensures.fills.grows c.requires.step, row_kept _ _ _ _ _ c.in_ok-drive.ensures.fills (one_net _ _ (row_parts c.args.builder.now c.from-item.result c.wire-item.result (take (length c.args.before.now - 1) (drop 1 c.args.before.now)) (take (length c.args.wires.now - 1) (drop 1 c.args.wires.now)) (subst (λ xs. IsRow c.args.builder.now xs (c.wire-item.result ∷ (take (length c.args.wires.now - 1) (drop 1 c.args.wires.now)))) (first_and_rest c.args.before.now c.from-item.result c.in-len1-up-before.len_at_least c.from-item.is) (subst (IsRow c.args.builder.now c.args.before.now) (first_and_rest c.args.wires.now c.wire-item.result c.in-len1-up.len_at_least c.wire-item.is) c.requires.row))).apart) (row_parts c.args.builder.now c.from-item.result c.wire-item.result (take (length c.args.before.now - 1) (drop 1 c.args.before.now)) (take (length c.args.wires.now - 1) (drop 1 c.args.wires.now)) (subst (λ xs. IsRow c.args.builder.now xs (c.wire-item.result ∷ (take (length c.args.wires.now - 1) (drop 1 c.args.wires.now)))) (first_and_rest c.args.before.now c.from-item.result c.in-len1-up-before.len_at_least c.from-item.is) (subst (IsRow c.args.builder.now c.args.before.now) (first_and_rest c.args.wires.now c.wire-item.result c.in-len1-up.len_at_least c.wire-item.is) c.requires.row))).others))

pub returns-clause-fills : goal.returns-clause-fills
returns-clause-fills t c = subst (λ xs. Fills c.args.builder.now c.emit_row.new.builder (nets_of xs)) (sym (first_and_rest c.args.wires.now c.wire-item.result c.in-len1-up.len_at_least c.wire-item.is)) (Fills-join _ _ _ (_ ∷ []) _ c.in_ok-drive.ensures.fills c.in_ok-emit_row.ensures.fills)

pub returns-clause-takes : goal.returns-clause-takes
returns-clause-takes t c = λ s r.
    let r_drive = runs_earlier _ _ s c.in_ok-emit_row.ensures.fills.grows r in
    subst (λ xs. Takes s c.args.step xs c.args.wires.now) (sym (first_and_rest c.args.before.now c.from-item.result c.in-len1-up-before.len_at_least c.from-item.is))
    (subst (Takes s c.args.step (c.from-item.result ∷ (take (length c.args.before.now - 1) (drop 1 c.args.before.now)))) (sym (first_and_rest c.args.wires.now c.wire-item.result c.in-len1-up.len_at_least c.wire-item.is)) (c.in_ok-drive.ensures.word s r_drive, c.in_ok-emit_row.ensures.takes s r))
