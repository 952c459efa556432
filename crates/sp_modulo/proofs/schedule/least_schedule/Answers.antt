use Rattle.std.proofs.Common.{◌≡◌, ◌≤◌, ◌==◌, length, rules, arith}
use Rattle.std.proofs.lemmas.List.Elements.{All-filter}
use Rattle.sp_modulo.specs.Times.{IsAmong, in_group}
use Rattle.sp_modulo.proofs.Fitting.{over_at}
use Rattle.sp_modulo.proofs.schedule.least_schedule.Goals as goal

pub least_in_group-requires-clause-among : goal.least_in_group-requires-clause-among
least_in_group-requires-clause-among c =
    let grouped : c.deref.result.now ≡ in_group c.args.orders.now = search rules in
    let all = All-filter (λ o. o.distance == 0) (IsAmong (length c.args.latencies.now)) c.args.orders.now (λ k d lt. let f = c.requires.fitting k d lt in (f.0, f.1)) in
    rw grouped all

pub least_in_group-requires-clause-gaps : goal.least_in_group-requires-clause-gaps
least_in_group-requires-clause-gaps c =
    let grouped : c.deref.result.now ≡ in_group c.args.orders.now = search rules in
    let all = All-filter (λ o. o.distance == 0) (λ o. o.gap ≤ 4) c.args.orders.now (λ k d lt. let f = c.requires.fitting k d lt in let s = c.requires.short _ 0 f.0 in omega arith) in
    rw grouped all

pub returns-in-Some-clause-over : goal.returns-in-Some-clause-over
returns-in-Some-clause-over c = over_at c.args.latencies.now c.args.orders.now c.in_ok-fit-in-Some.field-0.latency _ _ c.in_ok-fit-in-Some.ensures.schedule
