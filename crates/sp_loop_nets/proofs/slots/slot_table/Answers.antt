use Rattle.std.proofs.Common.{◌≡◌, length, take, drop, sym, ap, ap₂, ◌∙◌, arith}
use Rattle.std.proofs.lemmas.List.{length-map}
use Rattle.sp_netlist.specs.declared.parts.Wire.{Wire}
use Rattle.sp_beat_words.specs.declared.part.Row.{Row}
use Rattle.sp_node_runs.specs.BodiesRows.{wires_of}
use Rattle.sp_loop_nets.specs.Fits.{counted_wires}
use Rattle.sp_loop_nets.proofs.Standing.{counters_fit, long_at, table_nets, table_stands}
use Rattle.sp_loop_nets.proofs.slots.slot_table.Goals as goal

pub split_at-requires : goal.split_at-requires
split_at-requires c =
    let nets = c.deref-2.ensures.value ∙ c.in_ok-nets.ensures ∙ ap wires_of c.deref.ensures.value ∙ ap (λ (r : Row). wires_of r.wires.items) (sym c.index-rows-slot.is) in
    let many = ap length nets ∙ length-map c.index-rows-slot.result.wires.items (λ (w : Wire). w.net) ∙ long_at (length (counted_wires c.args.counted.now)) c.args.rows.now c.args.slot c.index-rows-slot.result c.requires.long c.requires.slot c.index-rows-slot.is in
    let fit = counters_fit c.args.counted.now.counters.items c.args.counted.now.masks.items in
    omega (arith, many, fit, c.len.ensures, c.args.counted.now.counters.ok.0)

pub returns-clause-nets : goal.returns-clause-nets
returns-clause-nets c =
    let nets = c.deref-2.ensures.value ∙ c.in_ok-nets.ensures ∙ ap wires_of c.deref.ensures.value ∙ ap (λ (r : Row). wires_of r.wires.items) (sym c.index-rows-slot.is) in
    let n : c.len.result ≡ length c.args.counted.now.counters.items = omega (arith, c.len.ensures, c.args.counted.now.counters.ok.0) in
    table_nets _ c.args.around.now c.in_ok-table.table.items c.args.counted.now c.args.rows.now c.args.slot c.index-rows-slot.result _ _ c.requires.slot c.index-rows-slot.is
    (c.split_at.ensures.front ∙ ap₂ take n nets) (c.split_at.ensures.back ∙ ap₂ drop n nets) c.in_ok-table.ensures

pub returns-clause-stand : goal.returns-clause-stand
returns-clause-stand c = λ d near stand all.
    let nets = c.deref-2.ensures.value ∙ c.in_ok-nets.ensures ∙ ap wires_of c.deref.ensures.value ∙ ap (λ (r : Row). wires_of r.wires.items) (sym c.index-rows-slot.is) in
    let n : c.len.result ≡ length c.args.counted.now.counters.items = omega (arith, c.len.ensures, c.args.counted.now.counters.ok.0) in
    table_stands c.counters_stand_inside.ensures d near _ c.args.around.now c.in_ok-table.table.items c.args.counted.now c.args.rows.now c.args.slot c.index-rows-slot.result _ _ c.requires.slot c.index-rows-slot.is
    (c.split_at.ensures.front ∙ ap₂ take n nets) (c.split_at.ensures.back ∙ ap₂ drop n nets) c.in_ok-table.ensures stand all
