use Rattle.std.proofs.Common.{◌^◌, ◌<◌, rules, FitsSigned}
use Rattle.std.specs.Int.{w128}
use Rattle.std.proofs.lemmas.Int.{to_z-of_z}
use Rattle.sp_deps.proofs.Within.{steps_within}
use Rattle.sp_deps.proofs.terms.step_term.Goals as goal

pub returns-clause-within : goal.returns-clause-within
returns-clause-within c =
    let fits : FitsSigned w128 c.multiple.result = search rules in
    let few : c.args.l.now.by < 2 ^ 32 = search rules in
    rw (to_z-of_z w128 _ fits, c.multiple.ensures.value, c.steps_of.ensures) (steps_within c.args.y.now c.args.l.now c.multiple.ensures.small few c.requires)
