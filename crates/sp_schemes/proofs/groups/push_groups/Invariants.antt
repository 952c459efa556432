use Rattle.std.proofs.Common.{◌≡◌, ◌++◌, [], map, take, drop}
use Rattle.sp_schemes.specs.Groups.{groups_from}
use Rattle.sp_schemes.specs.Uses.{plain_uses}
use Rattle.sp_schemes.proofs.groups.push_groups.Given as goal

abbrev pub invariant-loop-i : goal.invariant-loop-i
invariant-loop-i l =
    map (λ g. g.items) l.into.items ++ groups_from l.kind (plain_uses (take l.i l.uses)) (plain_uses (drop l.i l.uses)) ≡ map (λ g. g.items) l.fn.into.items ++ groups_from l.kind [] (plain_uses l.uses)
