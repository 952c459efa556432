use Rattle.sp_setup.proofs.drams.read_drams.Goals as goal

pub returns-clause-refused : goal.returns-clause-refused
returns-clause-refused g c = rw c.deref.ensures.value at c.read_dram_list.ensures.refused
