use Rattle.std.proofs.Common.{◌≡◌, ◌++◌, ◌∷◌, filter, drop}
use Rattle.sp_schemes.specs.Groups.{go_together, flat}
use Rattle.sp_schemes.specs.Uses.{plain_use, plain_uses}
use Rattle.sp_schemes.proofs.groups.group_of.Given as goal

abbrev pub invariant-loop-other : goal.invariant-loop-other
invariant-loop-other l =
    l.group.items ++ flat l.kind (filter (go_together l.kind (plain_use l.first)) (plain_uses (drop l.other-index l.rest))) ≡ flat l.kind (plain_use l.first ∷ filter (go_together l.kind (plain_use l.first)) (plain_uses l.rest))
