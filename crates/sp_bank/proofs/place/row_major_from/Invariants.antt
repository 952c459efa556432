use Rattle.std.proofs.Common.{◌≡◌, ◌+◌, ◌*◌, ◌<◌, take}
use Rattle.sp_bank.specs.Places.{product_of, row_major}
use Rattle.sp_bank.proofs.place.row_major_from.Given as goal

abbrev pub invariant-loop-i : goal.invariant-loop-i
invariant-loop-i l = record {
  is_number : l.number ≡ l.fn.start * product_of (take l.i l.dims) + row_major (take l.i l.dims) (take l.i l.x);
  below : l.number < (l.fn.start + 1) * product_of (take l.i l.dims);
}
