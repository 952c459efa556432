use Rattle.std.proofs.Common.{◌≡◌, ◌*◌, ◌≤◌, ◌^◌, take}
use Rattle.sp_bank.specs.Places.{weighted}
use Rattle.sp_bank.proofs.place.weighted_place.Given as goal

abbrev pub invariant-loop-i : goal.invariant-loop-i
invariant-loop-i l = record {
  is_sum : l.sum ≡ weighted (take l.i l.alpha) (take l.i l.x);
  small : l.sum ≤ l.i * 2 ^ 37;
}
