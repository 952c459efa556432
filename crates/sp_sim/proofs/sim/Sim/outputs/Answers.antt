use Rattle.std.proofs.Common.{◌∙◌, ap, map, subst}
use Rattle.sp_netlist.specs.Signals.{Setting}
use Rattle.sp_netlist.specs.Cycle.{out_words, done_in, Ends}
use Rattle.sp_sim.specs.Rows.{word_of}
use Rattle.sp_sim.specs.Memories.{Words}
use Rattle.sp_sim.specs.Progress.{Progress, setting_of, IsDone}
use Rattle.sp_sim.proofs.Outputs.{outputs_tell}
use Rattle.sp_sim.proofs.sim.Sim.outputs.Goals as goal

pub returns : goal.returns
returns c =
    let m = c.self.inside in
    let g : Setting = setting_of m.netlist.now m.input.now m.delays.now in
    let done = subst (λ (p : Progress). IsDone p.ended → IsDone m.ended) c.self.view_is (λ d. d) c.requires in
    subst (λ (p : Progress). Ends p.setting p.cycle (done_in p.cycle c.in_ok-outs.outs.items (map (λ v. v.items) c.in_ok-drams.drams.items))) c.self.view_is
    (outputs_tell c.one_ending.ensures c.quiet_run.ensures g m.program m.cycle m.state m.ended c.self.invariant done
    c.in_ok-outs.outs.items (map (λ v. v.items) c.in_ok-drams.drams.items)
    (c.in_ok-outs.ensures ∙ ap (λ xs. out_words xs (word_of m.state.row)) c.cells-cells.ensures.cells)
    (c.in_ok-drams.ensures ∙ ap (map (λ (w : Words). w.words)) c.deref.ensures.value))
