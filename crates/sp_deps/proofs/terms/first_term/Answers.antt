use Rattle.std.proofs.Common.{◌^◌, rules, arith, FitsSigned}
use Rattle.std.specs.Int.{w128}
use Rattle.std.proofs.lemmas.Int.{to_z-of_z}
use Rattle.sp_deps.proofs.Within.{range_within}
use Rattle.sp_deps.proofs.terms.first_term.Goals as goal

pub returns-clause-within : goal.returns-clause-within
returns-clause-within c =
    let fits : FitsSigned w128 c.opposite.result = search rules in
    rw (to_z-of_z w128 _ fits, c.range_of.ensures) (range_within 1 (2 ^ 63) c.opposite.result c.args.l.now c.opposite.ensures.small (omega arith) c.requires)
