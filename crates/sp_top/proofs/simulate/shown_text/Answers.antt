use Rattle.sp_top.proofs.simulate.shown_text.Goals as goal

pub returns-in-Outcome-clause-text : goal.returns-in-Outcome-clause-text
returns-in-Outcome-clause-text c = rw c.in-Outcome.is c.run_text.ensures.text
