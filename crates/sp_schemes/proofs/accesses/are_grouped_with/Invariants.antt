use Rattle.std.proofs.Common.{◌≡◌, drop}
use Rattle.std.specs.List.{list_all}
use Rattle.sp_schemes.specs.Accesses.{is_grouped_with}
use Rattle.sp_schemes.specs.Uses.{plain_use, plain_uses}
use Rattle.sp_schemes.proofs.accesses.are_grouped_with.Given as goal

abbrev pub invariant-loop-b : goal.invariant-loop-b
invariant-loop-b l = list_all (is_grouped_with (plain_use l.a)) (plain_uses (drop l.b-index l.rest)) ≡ list_all (is_grouped_with (plain_use l.a)) (plain_uses l.rest)
