use Rattle.std.proofs.Common.{◌≡◌, drop}
use Rattle.sp_core.specs.Declarations.{is_among}
use Rattle.sp_core.proofs.shown.is_owned.Given as goal

abbrev pub invariant-loop-m : goal.invariant-loop-m
invariant-loop-m l = is_among l.i (drop l.m-index l.owned) ≡ is_among l.i l.owned
