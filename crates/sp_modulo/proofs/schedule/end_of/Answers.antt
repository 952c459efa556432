use Rattle.std.proofs.Common.{◌≡◌, ◌+◌, take, arith, rules}
use Rattle.sp_modulo.specs.Times.{end_of}
use Rattle.sp_modulo.proofs.Ends.{end_of-more}
use Rattle.sp_modulo.proofs.schedule.end_of.Goals as goal

pub loop-i-preserved : goal.loop-i-preserved
loop-i-preserved c =
    let more = end_of-more c.args.latencies.now c.args.times.now c.loop-i.i c.loop-i-test.true (omega arith) in
    let now : c.loop-i.end ≡ end_of (take c.loop-i.i c.args.latencies.now) (take c.loop-i.i c.args.times.now) = c.loop-i.invariant in
    let goal : c.max-end.result ≡ end_of (take (c.loop-i.i + 1) c.args.latencies.now) (take (c.loop-i.i + 1) c.args.times.now) = search (rules, more, now) in
    goal
