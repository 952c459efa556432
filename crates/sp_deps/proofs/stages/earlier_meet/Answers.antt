use Rattle.std.proofs.Common.{◌<◌, sym, ◌∙◌, arith}
use Rattle.sp_deps.specs.Access.{plain_access}
use Rattle.sp_deps.proofs.Parallel.{among_earlier}
use Rattle.sp_deps.proofs.stages.earlier_meet.Goals as goal

pub returns-then-meet_in : goal.returns-then-meet_in
returns-then-meet_in c =
    let inside : c.loop-i.i < c.args.n = omega arith in
    sym (among_earlier (record { common = c.args.common.now; first = c.args.first.now; second = c.args.second.now }) (plain_access c.args.a.now).forms (plain_access c.args.b.now).forms c.args.n c.loop-i.i inside (sym c.meet_in.ensures ∙ c.if-meet_in.true))
