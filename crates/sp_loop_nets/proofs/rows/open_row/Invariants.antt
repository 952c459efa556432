use Rattle.std.proofs.Common.{take}
use Rattle.sp_beat_words.specs.Fits.{IsRow, nets_of}
use Rattle.sp_op_nets.specs.Reserved.{Reserves}
use Rattle.sp_loop_nets.proofs.rows.open_row.Given as goal

abbrev pub invariant-loop-index : goal.invariant-loop-index
invariant-loop-index l = record {
  row : IsRow l.builder (take l.index l.before) l.wires.items;
  reserves : Reserves l.fn.builder l.builder (nets_of l.wires.items);
}
