use Rattle.std.proofs.Common.{◌∙◌, sym, ap, subst, None}
use Rattle.sp_netlist.specs.Signals.{Setting}
use Rattle.sp_sim.specs.Progress.{Progress, setting_of, PeeksAt}
use Rattle.sp_sim.specs.Sims.{IsSim}
use Rattle.sp_sim.proofs.Runs.{ended_sim, peeks, progress}
use Rattle.sp_sim.proofs.sim.Sim.peek.Goals as goal

pub invariant_of-self : goal.invariant_of-self
invariant_of-self c =
    let m = c.self.inside in
    let g : Setting = setting_of m.netlist.now m.input.now m.delays.now in
    let none = ap (λ (p : Progress). p.ended) c.self.view_is ∙ c.requires in
    let sim = subst (IsSim g m.program m.cycle m.state) none c.self.invariant in
    subst (IsSim g m.program m.cycle c.look-found.new.state) (sym c.end_of-end.ensures)
    (ended_sim g m.program m.cycle m.state c.look-found.new.state sim c.look-found.ensures.state c.look-found.result
    (λ s q. c.look-found.ensures.looked g.args g.drams g.delays s m.cycle q (sim.stands s q)))

pub returns : goal.returns
returns c =
    let m = c.self.inside in
    let g : Setting = setting_of m.netlist.now m.input.now m.delays.now in
    let none = ap (λ (p : Progress). p.ended) c.self.view_is ∙ c.requires in
    let sim = subst (IsSim g m.program m.cycle m.state) none c.self.invariant in
    let told = peeks c.one_ending.ensures c.quiet_run.ensures g m.program m.cycle m.state c.look-found.new.state sim c.look-found.result
    (λ s q. c.look-found.ensures.looked g.args g.drams g.delays s m.cycle q (sim.stands s q)) in
    let same = ap (progress g m.cycle) (sym none) ∙ c.self.view_is in
    subst (λ old. PeeksAt old c.end_of-end.result (progress g m.cycle c.end_of-end.result)) same
    (subst (λ e. PeeksAt (progress g m.cycle None) e (progress g m.cycle e)) (sym c.end_of-end.ensures) told)
