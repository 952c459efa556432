use Rattle.std.proofs.Common.{subst}
use Rattle.sp_meets.specs.declared.steps.Tries.{Tries}
use Rattle.sp_meets.specs.Steps.{loops_of, AreTriesOfAll}
use Rattle.sp_meets.proofs.Parallel.{most_by_every, every_passes}
use Rattle.sp_meets.proofs.steps.most_tries.Goals as goal

pub returns-in-Every-clause-some : goal.returns-in-Every-clause-some
returns-in-Every-clause-some c =
    let loops = loops_of c.args.common.now c.args.first.now c.args.second.now in
    let P : Tries → Type 0 = λ r. AreTriesOfAll loops c.args.a.now c.args.b.now r in
    most_by_every loops c.args.a.now c.args.b.now c.in-Every.n (subst P c.in-Every.is c.tries_of_all.ensures)

pub returns-in-Every-clause-passes : goal.returns-in-Every-clause-passes
returns-in-Every-clause-passes c =
    let loops = loops_of c.args.common.now c.args.first.now c.args.second.now in
    let P : Tries → Type 0 = λ r. AreTriesOfAll loops c.args.a.now c.args.b.now r in
    every_passes loops c.args.a.now c.args.b.now c.in-Every.n (subst P c.in-Every.is c.tries_of_all.ensures)
