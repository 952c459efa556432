use Rattle.std.proofs.Common.{◌≡◌, take}
use Rattle.sp_modulo.specs.Times.{end_of}
use Rattle.sp_modulo.proofs.schedule.end_of.Given as goal

abbrev pub invariant-loop-i : goal.invariant-loop-i
invariant-loop-i l = l.end ≡ end_of (take l.i l.latencies) (take l.i l.times)
