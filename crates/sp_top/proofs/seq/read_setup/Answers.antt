use Rattle.std.proofs.Common.{ap}
use Rattle.sp_tree.specs.ProgramParts.{plain_program}
use Rattle.sp_words.specs.Ports.{PlainPorts}
use Rattle.sp_top.proofs.SeqLemmas.{dram_sizes, input_fits}
use Rattle.sp_top.proofs.seq.read_setup.Goals as goal

pub setup_for-requires : goal.setup_for-requires
setup_for-requires g c = dram_sizes (plain_program c.args.program.now) c.ports.result.now.drams.items c.ports.ensures.program (ap (λ (p : PlainPorts). p.drams) c.ports.ensures.ports)

pub returns-clause-given : goal.returns-clause-given
returns-clause-given g c = rw c.ports.ensures.ports at c.setup_for.ensures.given

pub returns-clause-fits : goal.returns-clause-fits
returns-clause-fits g c = input_fits c.setup_for.result c.ports.result.now c.args.program.now.ports c.ports.ensures.ports c.setup_for.ensures.fits

pub returns-clause-refused : goal.returns-clause-refused
returns-clause-refused g c = rw c.ports.ensures.ports at c.setup_for.ensures.refused
