use Rattle.std.proofs.Common.{◌<◌, sym, ◌∙◌, arith, add-one}
use Rattle.sp_deps.specs.Access.{plain_access}
use Rattle.sp_deps.proofs.Parallel.{among_steps}
use Rattle.sp_deps.proofs.stages.steps_meet.Goals as goal

pub returns-then-meet_in : goal.returns-then-meet_in
returns-then-meet_in c =
    let inside : c.loop-t.t < c.args.n = omega arith in
    sym (among_steps (record { common = c.args.common.now; first = c.args.first.now; second = c.args.second.now }) (plain_access c.args.a.now) (plain_access c.args.b.now) c.args.n c.loop-t.t inside (rw add-one at (sym c.meet_in.ensures ∙ c.if-meet_in.true)))
