use Rattle.sp_setup.proofs.drams.read_dram.Goals as goal

pub returns-in-Some-clause-given : goal.returns-in-Some-clause-given
returns-in-Some-clause-given g c = rw (← c.in-Some.ensures) c.read_named.ensures.given

pub returns-in-Some-clause-refused : goal.returns-in-Some-clause-refused
returns-in-Some-clause-refused g c = rw (← c.in-Some.ensures) c.read_named.ensures.refused
