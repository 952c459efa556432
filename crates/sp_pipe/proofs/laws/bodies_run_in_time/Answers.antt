use Rattle.sp_pipe.proofs.InTime as lemma
use Rattle.sp_pipe.proofs.laws.bodies_run_in_time.Goals as goal

pub returns : goal.returns
returns c = lemma.bodies_run_in_time
