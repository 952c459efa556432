use Rattle.std.proofs.Common.{◌∙◌, ap, map, set}
use Rattle.std.proofs.lemmas.List.{map-set}
use Rattle.sp_netlist.specs.Signals.{next_phase}
use Rattle.sp_sim.specs.Phases.{plain_phase, phase_at}
use Rattle.sp_sim.proofs.serve.move_channel.Goals as goal

pub returns-then-channel-phases : goal.returns-then-channel-phases
unfolding phase_at
returns-then-channel-phases c =
    map-set plain_phase c.args.phases.now c.args.channel c.next_phase-phase.result
    ∙ ap (set (map plain_phase c.args.phases.now) c.args.channel) (c.next_phase-phase.ensures ∙ ap (λ p. next_phase p c.args.request c.args.last c.args.delay) c.phase_of.ensures)
