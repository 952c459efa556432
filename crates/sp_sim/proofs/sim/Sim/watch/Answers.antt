use Rattle.std.proofs.Common.{◌≡◌, map, subst, OnOk}
use Rattle.std.proofs.lemmas.Result.{on_ok_weaker}
use Rattle.sp_netlist.specs.Quiet.{IsQuiet}
use Rattle.sp_netlist.specs.Signals.{Setting, Signals}
use Rattle.sp_sim.specs.Progress.{Progress, setting_of}
use Rattle.sp_sim.proofs.Watched.{watched_sim, watched_words}
use Rattle.sp_sim.proofs.sim.Sim.watch.Goals as goal

pub invariant_of-self : goal.invariant_of-self
invariant_of-self c =
    let m = c.self.inside in
    let g : Setting = setting_of m.netlist.now m.input.now m.delays.now in
    watched_sim g m.program m.cycle m.state c.look.new.state c.look.result m.ended c.self.invariant c.look.ensures.state
    (λ s q. c.look.ensures.looked g.args g.drams g.delays s m.cycle q (c.self.invariant.stands s q))

pub returns-clause-words : goal.returns-clause-words
returns-clause-words c =
    let m = c.self.inside in
    let g : Setting = setting_of m.netlist.now m.input.now m.delays.now in
    subst (λ (p : Progress). OnOk c.put_into.result ((s : Signals) → IsQuiet p.setting s → c.put_into.new.words.items ≡ map (s.net p.cycle) c.args.nets.now)) c.self.view_is
    (on_ok_weaker c.put_into.result (λ are. watched_words g m.cycle c.look.new.state c.look.result c.args.nets.now c.put_into.new.words.items
    (λ s q. c.look.ensures.looked g.args g.drams g.delays s m.cycle q (c.self.invariant.stands s q)) are) c.put_into.ensures)
