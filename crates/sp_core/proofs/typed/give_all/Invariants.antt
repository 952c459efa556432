use Rattle.std.proofs.Common.{◌≡◌, drop}
use Rattle.sp_core.specs.Typed.{give_all}
use Rattle.sp_core.proofs.typed.give_all.Given as goal

abbrev pub invariant-loop-i : goal.invariant-loop-i
invariant-loop-i l = give_all l.earlier (drop l.i l.places) (drop l.i l.types) ≡ give_all l.earlier l.places l.types
