use Rattle.std.proofs.Common.{◌≡◌, drop}
use Rattle.sp_core.specs.Declarations.{is_among}
use Rattle.sp_depths.proofs.depths.is_among.Given as goal

abbrev pub invariant-loop-r : goal.invariant-loop-r
invariant-loop-r l = is_among l.m (drop l.r-index l.owned) ≡ is_among l.m l.owned
