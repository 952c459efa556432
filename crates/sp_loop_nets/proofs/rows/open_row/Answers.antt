use Rattle.std.proofs.Common.{◌+◌, [], sym, ap, subst, take}
use Rattle.sp_netlist.specs.declared.parts.Wire.{Wire}
use Rattle.sp_beat_words.specs.Fits.{IsRow, nets_of, no_wire}
use Rattle.sp_op_nets.specs.Reserved.{Reserves}
use Rattle.sp_op_nets.proofs.Reserving.{same_reserved}
use Rattle.sp_loop_nets.proofs.Promising.{row_step, row_step_reserves}
use Rattle.sp_loop_nets.proofs.rows.open_row.Goals as goal

pub loop-index-init : goal.loop-index-init
loop-index-init c = record {
  row = subst (IsRow c.args.builder.now []) (sym c.new-wires.ensures.items) no_wire;
  reserves = subst (λ ws. Reserves c.args.builder.now c.args.builder.now (nets_of ws)) (sym c.new-wires.ensures.items) (same_reserved c.args.builder.now);
}

pub loop-index-preserved : goal.loop-index-preserved
loop-index-preserved c =
    let i = c.loop-index.invariant in
    let e = c.in_ok-net.ensures in
    record {
      row = subst (IsRow c.reserve.new.builder (take (c.loop-index.index + 1) c.args.before.now)) (sym c.in_ok-push.ensures.items)
          (row_step c.args.builder.now c.loop-index.builder c.reserve.new.builder c.args.before.now c.loop-index.wires.items c.loop-index.index c.in_ok-net.net _ c.index-before-index.result
          c.loop-index-test.true c.index-before-index.is c.requires i.reserves e.opens (ap (λ (w : Wire). w.width) (sym c.index-before-index.is)) e.awaits i.row);
      reserves = subst (λ ws. Reserves c.args.builder.now c.reserve.new.builder (nets_of ws)) (sym c.in_ok-push.ensures.items)
          (row_step_reserves c.args.builder.now c.loop-index.builder c.reserve.new.builder c.args.before.now c.loop-index.wires.items c.loop-index.index c.in_ok-net.net _ c.index-before-index.result
          c.loop-index-test.true c.index-before-index.is c.requires i.reserves e.opens (ap (λ (w : Wire). w.width) (sym c.index-before-index.is)) e.awaits);
    }
