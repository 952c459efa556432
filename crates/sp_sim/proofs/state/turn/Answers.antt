use Rattle.std.proofs.Common.{sym, subst}
use Rattle.sp_netlist.specs.Signals.{Setting}
use Rattle.sp_sim.specs.States.{TurnedIn}
use Rattle.sp_sim.proofs.Runs.{looked_turned}
use Rattle.sp_sim.proofs.state.turn.Goals as goal

pub returns-in-Nothing-clause-turned : goal.returns-in-Nothing-clause-turned
returns-in-Nothing-clause-turned c = λ args drams s t given q stands.
    let g : Setting = record { cells = c.args.netlist.now; args = args; drams = drams; delays = c.args.delays.now } in
    let k = c.in-Nothing.ensures.looked args drams c.args.delays.now s t q stands in
    subst (TurnedIn g s t c.advance.new.state) (sym c.in-Nothing.is) (k.found, c.advance.ensures.stands args drams s t given q k.stands k.words)

pub returns-in_default : goal.returns-in_default
returns-in_default c = record {
  state = c.look-found.ensures.state;
  turned = λ args drams s t given q stands.
      looked_turned (record { cells = c.args.netlist.now; args = args; drams = drams; delays = c.args.delays.now }) s t c.look-found.new.state c.look-found.result c.in_default.not-Nothing
      (c.look-found.ensures.looked args drams c.args.delays.now s t q stands);
}
