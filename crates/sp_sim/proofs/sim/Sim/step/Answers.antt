use Rattle.std.proofs.Common.{◌+◌, ◌-◌, ◌^◌, ◌<◌, ◌∙◌, sym, subst, IfNone}
use Rattle.sp_netlist.specs.Signals.{Setting}
use Rattle.sp_sim.specs.Progress.{Progress, setting_of, StepsTo}
use Rattle.sp_sim.specs.Sims.{IsSim}
use Rattle.sp_sim.specs.States.{TurnedIn}
use Rattle.sp_sim.proofs.Runs.{nothing_found, turned_looked, next_sim, ended_sim, steps_on, steps_end, if_none}
use Rattle.sp_sim.proofs.sim.Sim.step.Goals as goal

pub invariant_of-self : goal.invariant_of-self
invariant_of-self c =
    let m = c.self.inside in
    let g : Setting = setting_of m.netlist.now m.input.now m.delays.now in
    let sim = subst (IsSim g m.program m.cycle m.state) c.in_default.is c.self.invariant in
    let found = nothing_found m.cycle c.turn-found.result (sym c.end_of-end.ensures ∙ c.in-None.is) in
    subst (IsSim g m.program (m.cycle + 1) c.turn-found.new.state) (sym c.in_default.is)
    (next_sim g m.program m.cycle m.state c.turn-found.new.state sim c.turn-found.ensures.state
    (λ s q. subst (TurnedIn g s m.cycle c.turn-found.new.state) found (c.turn-found.ensures.turned g.args g.drams s m.cycle sim.given q (sim.stands s q))))

pub invariant_of-self-in-Some-end : goal.invariant_of-self-in-Some-end
invariant_of-self-in-Some-end c =
    let m = c.self.inside in
    let g : Setting = setting_of m.netlist.now m.input.now m.delays.now in
    let sim = subst (IsSim g m.program m.cycle m.state) c.in_default.is c.self.invariant in
    subst (IsSim g m.program m.cycle c.turn-found.new.state) (sym c.end_of-end.ensures)
    (ended_sim g m.program m.cycle m.state c.turn-found.new.state sim c.turn-found.ensures.state c.turn-found.result
    (λ s q. turned_looked g s m.cycle m.cycle c.turn-found.new.state c.turn-found.result _ (sym c.end_of-end.ensures ∙ c.in-Some-end.is)
    (c.turn-found.ensures.turned g.args g.drams s m.cycle sim.given q (sim.stands s q))))

pub returns-in-None-clause-cycle : goal.returns-in-None-clause-cycle
returns-in-None-clause-cycle c =
    let m = c.self.inside in
    let g : Setting = setting_of m.netlist.now m.input.now m.delays.now in
    let sim = subst (IsSim g m.program m.cycle m.state) c.in_default.is c.self.invariant in
    let found = nothing_found m.cycle c.turn-found.result (sym c.end_of-end.ensures ∙ c.in-None.is) in
    let new : Progress = record { setting = g; cycle = m.cycle + 1; ended = m.ended } in
    subst (λ old. IfNone old.ended (old.cycle < 2 ^ 64 - 1 → StepsTo old c.end_of-end.result new)) c.self.view_is
    (if_none m.ended (m.cycle < 2 ^ 64 - 1 → StepsTo (record { setting = g; cycle = m.cycle; ended = m.ended }) c.end_of-end.result new)
    (λ l. steps_on c.one_ending.ensures c.quiet_run.ensures g m.program m.cycle m.state c.turn-found.new.state sim
    (λ s q. subst (TurnedIn g s m.cycle c.turn-found.new.state) found (c.turn-found.ensures.turned g.args g.drams s m.cycle sim.given q (sim.stands s q)))
    m.ended m.ended c.in_default.is c.in_default.is c.end_of-end.result c.in-None.is))

pub returns-in-Some-end-clause-cycle : goal.returns-in-Some-end-clause-cycle
returns-in-Some-end-clause-cycle c =
    let m = c.self.inside in
    let g : Setting = setting_of m.netlist.now m.input.now m.delays.now in
    let sim = subst (IsSim g m.program m.cycle m.state) c.in_default.is c.self.invariant in
    let new : Progress = record { setting = g; cycle = m.cycle; ended = c.end_of-end.result } in
    subst (λ old. IfNone old.ended (old.cycle < 2 ^ 64 - 1 → StepsTo old c.end_of-end.result new)) c.self.view_is
    (if_none m.ended (m.cycle < 2 ^ 64 - 1 → StepsTo (record { setting = g; cycle = m.cycle; ended = m.ended }) c.end_of-end.result new)
    (λ l. steps_end c.one_ending.ensures c.quiet_run.ensures g m.program m.cycle m.state c.turn-found.new.state sim c.turn-found.result
    (λ s q. c.turn-found.ensures.turned g.args g.drams s m.cycle sim.given q (sim.stands s q)) m.ended c.end_of-end.result _ c.in-Some-end.is c.end_of-end.ensures))
