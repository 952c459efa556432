use Rattle.std.proofs.Common.{◌≡◌, ◌++◌, ◌∷◌, [], rules}
use Rattle.sp_sched.proofs.Turns.{turns-more}
use Rattle.sp_sched.proofs.body.times_in_turn.Goals as goal

pub loop-op-preserved : goal.loop-op-preserved
loop-op-preserved c =
    let pushed : c.push.new.self.items ≡ c.loop-op.times.items ++ c.loop-op.time ∷ [] = search rules in
    turns-more _ c.args.ops.now c.loop-op.op-index c.loop-op.times.items _ c.loop-op.time _ _ c.op-item.result c.loop-op-test.true c.op-item.is pushed c.latency-time.ensures.cycles c.latency-time.ensures.few c.loop-op.invariant
