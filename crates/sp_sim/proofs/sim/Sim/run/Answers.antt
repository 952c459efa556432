use Rattle.std.proofs.Common.{◌≡◌, ◌+◌, ◌-◌, ◌^◌, ◌<◌, ◌≤◌, min, sym, subst, IfNone, Some, arith}
use Rattle.sp_sim.specs.declared.end.SimEnd.TheVariants.{CyclesSpent}
use Rattle.std.proofs.Common.{unwrap_or}
use Rattle.sp_sim.specs.Progress.{Tells, StepsTo, PeeksAt}
use Rattle.sp_sim.proofs.Runs.{tells_later, peek_tells}
use Rattle.sp_sim.proofs.sim.Sim.run.Goals as goal

pub returns-in-Some-clause-end : goal.returns-in-Some-clause-end
returns-in-Some-clause-end c =
    let p = c.args.self.now in
    let told = c.in-Some.ensures.tells in
    let within : p.cycle ≤ min (p.cycle + c.args.cycles) (2 ^ 64 - 1) = omega (arith, c.cycle-from.ensures, c.cycle-from.type_inv) in
    tells_later c.ending_kept.ensures p.setting p.cycle (min (p.cycle + c.args.cycles) (2 ^ 64 - 1)) c.in-Some.end within told.1 told.0

pub returns-in-Some-step-clause-end : goal.returns-in-Some-step-clause-end
returns-in-Some-step-clause-end c =
    let p = c.args.self.now in
    let i = c.loop-cycle._cycle in
    let below : i < min (p.cycle + c.args.cycles) (2 ^ 64 - 1) = omega (arith, c.loop-cycle-test.true, c.saturating_add-last.ensures, c.cycle-from.ensures) in
    let told = subst (λ old. IfNone old.ended (old.cycle < 2 ^ 64 - 1 → StepsTo old (Some c.in-Some-step.end) c.step.new.self)) c.loop-cycle.invariant c.in-Some-step.ensures.cycle (omega (arith, below)) in
    tells_later c.ending_kept.ensures p.setting i (min (p.cycle + c.args.cycles) (2 ^ 64 - 1)) c.in-Some-step.end (omega (arith, below)) told.1 told.0

pub returns-clause-end : goal.returns-clause-end
returns-clause-end c =
    let p = c.args.self.now in
    let i = c.loop-cycle._cycle in
    let at : i ≡ min (p.cycle + c.args.cycles) (2 ^ 64 - 1) = omega (arith, c.loop-cycle-test.false, c.loop-cycle.auto._cycle-end, c.saturating_add-last.ensures, c.cycle-from.ensures, c.cycle-from.type_inv) in
    let told = peek_tells p.setting i c.peek.result c.peek.new.self (subst (λ old. PeeksAt old c.peek.result c.peek.new.self) c.loop-cycle.invariant c.peek.ensures) in
    subst (Tells p.setting (min (p.cycle + c.args.cycles) (2 ^ 64 - 1))) (sym c.unwrap_or.ensures) (subst (λ n. Tells p.setting n (unwrap_or c.peek.result CyclesSpent)) at told)
