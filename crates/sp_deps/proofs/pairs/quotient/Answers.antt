use Rattle.std.proofs.Common.{◌∙◌, sym, FitsSigned, rules}
use Rattle.std.specs.Int.{w128}
use Rattle.std.proofs.lemmas.Int.{to_z-of_z}
use Rattle.sp_deps.proofs.Parallel.{solution, turned_max}
use Rattle.sp_deps.proofs.pairs.quotient.Goals as goal

pub returns-clause-only : goal.returns-clause-only
returns-clause-only c = λ t h e.
    let s : FitsSigned w128 c.args.start.now = search rules in
    let k : FitsSigned w128 c.args.step.now = search rules in
    let whole = rw (c.unsigned_abs.ensures.value, c.unsigned_abs-2.ensures.value, to_z-of_z w128 _ s, to_z-of_z w128 _ k) at c.max.ensures in
    solution c.args.start.now c.args.step.now t h c.requires.step e ∙ turned_max _ ∙ sym whole
