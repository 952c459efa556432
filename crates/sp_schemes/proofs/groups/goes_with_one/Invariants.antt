use Rattle.std.proofs.Common.{◌≡◌, drop}
use Rattle.std.specs.List.{list_any}
use Rattle.sp_schemes.specs.Groups.{go_together}
use Rattle.sp_schemes.specs.Uses.{plain_use, plain_uses}
use Rattle.sp_schemes.proofs.groups.goes_with_one.Given as goal

abbrev pub invariant-loop-b : goal.invariant-loop-b
invariant-loop-b l = list_any (go_together l.kind (plain_use l.a)) (plain_uses (drop l.b-index l.earlier)) ≡ list_any (go_together l.kind (plain_use l.a)) (plain_uses l.earlier)
