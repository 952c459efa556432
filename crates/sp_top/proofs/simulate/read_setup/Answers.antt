use Rattle.std.proofs.Common.{ap}
use Rattle.sp_words.specs.Ports.{PlainPorts}
use Rattle.sp_top.proofs.SimulateLemmas.{dram_sizes}
use Rattle.sp_top.proofs.simulate.read_setup.Goals as goal

pub setup_for-requires : goal.setup_for-requires
setup_for-requires g c = dram_sizes c.args.netlist.now c.ports.result.now.drams.items c.requires (ap (λ (p : PlainPorts). p.drams) c.ports.ensures.ports)

pub returns-clause-given : goal.returns-clause-given
returns-clause-given g c = rw c.ports.ensures.ports at c.setup_for.ensures.given

pub returns-clause-refused : goal.returns-clause-refused
returns-clause-refused g c = rw c.ports.ensures.ports at c.setup_for.ensures.refused
