use Rattle.std.proofs.Common.{◌≡◌, length}
use Rattle.sp_beat_words.specs.Fits.{AreRows, row_nets}
use Rattle.sp_op_nets.specs.Reserved.{Reserves}
use Rattle.sp_loop_nets.proofs.rows.open_rows.Given as goal

abbrev pub invariant-loop-slot : goal.invariant-loop-slot
invariant-loop-slot l = record {
  rows : AreRows l.builder l.before.items l.rows.items;
  reserves : Reserves l.fn.builder l.builder (row_nets l.rows.items);
  each : length l.rows.items ≡ l._slot;
}
