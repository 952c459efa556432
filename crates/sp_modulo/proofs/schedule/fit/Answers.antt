use Rattle.std.proofs.Common.{◌≡◌, ◌-◌, max, map, rules}
use Rattle.sp_modulo.proofs.Fitting.{possible, scheduled_by}
use Rattle.sp_modulo.proofs.schedule.fit.Goals as goal

pub least_interval-requires-clause-possible : goal.least_interval-requires-clause-possible
least_interval-requires-clause-possible c =
    let limits : c.deref.result.now ≡ map (λ l. c.args.latency - l) c.args.latencies.now = search rules in
    let most : c.max.result ≡ max c.args.latency 1 = search rules in
    let found = possible c.args.latencies.now c.args.orders.now c.args.latency c.requires.latency c.requires.among c.requires.gaps in
    rw (limits, most) found

pub returns : goal.returns
returns c =
    let limits : c.deref.result.now ≡ map (λ l. c.args.latency - l) c.args.latencies.now = search rules in
    let found = c.in_ok-times.ensures in
    record { schedule = scheduled_by c.args.latencies.now c.args.orders.now c.args.latency c.deref.result.now limits c.requires.latency _ _ found.some found.interval found.times found.within }
