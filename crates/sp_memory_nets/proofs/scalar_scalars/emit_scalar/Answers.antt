use Rattle.std.proofs.Common.{refl, sym, ◌∙◌}
use Rattle.sp_memory_nets.specs.ScalarRuns.{an_argument, a_register}
use Rattle.sp_memory_nets.proofs.scalar_scalars.emit_scalar.Goals as goal

pub returns-in_ok-emit_argument-in-ArgIn-clause-runs :
    goal.returns-in_ok-emit_argument-in-ArgIn-clause-runs
returns-in_ok-emit_argument-in-ArgIn-clause-runs c = λ s run. an_argument (sym c.memory.ensures.kind ∙ c.in-ArgIn.is) refl (c.in_ok-emit_argument-in-ArgIn.ensures.runs s run)

pub returns-in_ok-net-in_default : goal.returns-in_ok-net-in_default
returns-in_ok-net-in_default c =
    let e = c.in_ok-net-in_default.ensures in
    record { fills = e.fills; net = e.net; runs = λ s run. a_register (λ is. c.in_default.not-ArgIn (c.memory.ensures.kind ∙ is)) (e.runs s run) }
