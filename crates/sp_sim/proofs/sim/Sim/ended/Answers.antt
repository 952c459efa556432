use Rattle.std.proofs.Common.{subst, IfSome}
use Rattle.sp_netlist.specs.Signals.{Setting}
use Rattle.sp_sim.specs.Progress.{setting_of, Tells, IsEndIn}
use Rattle.sp_sim.proofs.Runs.{if_ended}
use Rattle.sp_sim.proofs.sim.Sim.ended.Goals as goal

pub returns-clause-tells : goal.returns-clause-tells
returns-clause-tells c =
    let m = c.self.inside in
    let g : Setting = setting_of m.netlist.now m.input.now m.delays.now in
    subst (λ p. IfSome m.ended (λ end. Tells p.setting p.cycle end × IsEndIn p.cycle end)) c.self.view_is
    (if_ended c.one_ending.ensures c.quiet_run.ensures g m.program m.cycle m.state m.ended c.self.invariant)
