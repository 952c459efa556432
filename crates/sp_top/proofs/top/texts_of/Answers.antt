use Rattle.sp_top.proofs.top.texts_of.Goals as goal

pub returns-in-Simulate-clause-refused : goal.returns-in-Simulate-clause-refused
returns-in-Simulate-clause-refused g c = rw c.in-Simulate.is c.simulate.ensures.refused

pub returns-in-Waves-clause-refused : goal.returns-in-Waves-clause-refused
returns-in-Waves-clause-refused g c = rw c.in-Waves.is c.simulate-in-Waves.ensures.refused

pub returns-in-Seq-clause-refused : goal.returns-in-Seq-clause-refused
returns-in-Seq-clause-refused g c = rw c.in-Seq.is c.run_program.ensures.refused

pub returns-in-Run-clause-refused : goal.returns-in-Run-clause-refused
returns-in-Run-clause-refused g c = rw c.in-Run.is c.run_program-in-Run.ensures.refused
