use Rattle.sp_words.specs.declared.kind.Kind.TheVariants.{ArgOut}
use Rattle.sp_core.specs.Meaning.{is_out}
use Rattle.sp_port_nets.proofs.Ported.{out_is, are_ports}
use Rattle.sp_port_nets.proofs.Standing.{out_names, outs_stand}
use Rattle.sp_port_nets.proofs.laws.outputs_are_ports.Goals as goal

pub returns : goal.returns
returns c core right = are_ports core is_out ArgOut out_is core.ports.outs (outs_stand core right.ports) (out_names core right.ports)
