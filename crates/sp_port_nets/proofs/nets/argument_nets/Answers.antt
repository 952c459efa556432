use Rattle.std.proofs.Common.{◌≡◌, ℕ, List, length, ap, ◌∙◌, arith}
use Rattle.std.proofs.lemmas.Grind.{common_steps}
use Rattle.sp_port_nets.specs.Nets.{nets_of_arguments}
use Rattle.sp_port_nets.proofs.Numbers.{nets_each}
use Rattle.sp_port_nets.proofs.nets.argument_nets.Goals as goal

pub returns-clause-each : goal.returns-clause-each
returns-clause-each c =
    let all : c.loop-mem.nets.items ≡ nets_of_arguments c.args.core.now.mems c.args.ports.now = grind (arith, common_steps) in
    ap (λ (ns : List ℕ). length ns) all ∙ nets_each c.args.core.now.mems c.args.ports.now
