use Rattle.sp_part_runs.proofs.ActsAgreeing.{acts_agree}
use Rattle.sp_part_runs.proofs.acts.accesses_agree.Goals as goal

pub returns : goal.returns
returns c d scope ops ps es s u last group given answered = acts_agree d scope ops ps es s u last group given answered
