use Rattle.std.proofs.Common.{◌<◌, sym, ◌∙◌, arith}
use Rattle.std.specs.Prelude.{Some}
use Rattle.sp_deps.specs.Distances.{all_common}
use Rattle.sp_deps.proofs.Parallel.{among_earlier}
use Rattle.sp_deps.proofs.pairs.earlier_may_meet.Goals as goal

pub returns-then-may_meet : goal.returns-then-may_meet
returns-then-may_meet c =
    let inside : c.loop-i.i < c.args.n = omega arith in
    sym (among_earlier (all_common c.args.loops.now) (Some c.args.a.now) (Some c.args.b.now) c.args.n c.loop-i.i inside (sym c.may_meet.ensures ∙ c.if-may_meet.true))
