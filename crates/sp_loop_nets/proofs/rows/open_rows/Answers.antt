use Rattle.std.proofs.Common.{◌+◌, [], ◌∷◌, length, sym, subst, ap, ◌∙◌}
use Rattle.std.proofs.lemmas.List.{length-append}
use Rattle.sp_beat_words.specs.Fits.{AreRows, row_nets, no_row}
use Rattle.sp_node_runs.specs.BodiesRows.{wires_of}
use Rattle.sp_op_nets.specs.Reserved.{Reserves}
use Rattle.sp_op_nets.proofs.Reserving.{same_reserved}
use Rattle.sp_loop_nets.proofs.Promising.{wires_stand, rows_step, rows_step_reserves, rows_long, values_are}
use Rattle.sp_loop_nets.proofs.rows.open_rows.Goals as goal

pub loop-slot-init : goal.loop-slot-init
loop-slot-init c = record {
  rows = subst (AreRows c.args.builder.now c.in_ok-before.before.items) (sym c.new-rows.ensures.items) no_row;
  reserves = subst (λ rs. Reserves c.args.builder.now c.args.builder.now (row_nets rs)) (sym c.new-rows.ensures.items) (same_reserved c.args.builder.now);
  each = ap length c.new-rows.ensures.items;
}

pub open_row-requires : goal.open_row-requires
open_row-requires c =
    wires_stand c.args.builder.now c.loop-slot.builder c.args.counted.now c.deref.result.now c.loop-slot.invariant.reserves.grows (record { values = c.requires.values; masks = c.requires.masks }) (c.deref.ensures.value ∙ c.in_ok-before.ensures)

pub loop-slot-preserved : goal.loop-slot-preserved
loop-slot-preserved c =
    let i = c.loop-slot.invariant in
    let e = c.in_ok-row.ensures in
    record {
      rows = subst (AreRows c.open_row.new.builder c.in_ok-before.before.items) (sym c.in_ok-push.ensures.items)
          (rows_step c.args.builder.now c.loop-slot.builder c.open_row.new.builder c.in_ok-before.before.items c.loop-slot.rows.items c.in_ok-row.row i.reserves e.reserves i.rows (rw (sym c.deref.ensures.value) e.row));
      reserves = subst (λ rs. Reserves c.args.builder.now c.open_row.new.builder (row_nets rs)) (sym c.in_ok-push.ensures.items)
          (rows_step_reserves c.args.builder.now c.loop-slot.builder c.open_row.new.builder c.in_ok-before.before.items c.loop-slot.rows.items c.in_ok-row.row i.reserves e.reserves);
      each = ap length c.in_ok-push.ensures.items ∙ length-append c.loop-slot.rows.items (c.in_ok-row.row ∷ []) ∙ ap (λ n. n + 1) i.each;
    }

pub returns-clause-first : goal.returns-clause-first
returns-clause-first c = ap wires_of c.in_ok-before.ensures ∙ values_are c.args.counted.now.counters.items c.args.counted.now.masks.items

pub returns-clause-long : goal.returns-clause-long
returns-clause-long c = rows_long _ c.in_ok-before.before.items c.loop-slot.rows.items c.loop-slot.invariant.rows
