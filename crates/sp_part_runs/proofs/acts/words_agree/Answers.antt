use Rattle.sp_part_runs.proofs.ActsAgreeing.{words_agree}
use Rattle.sp_part_runs.proofs.acts.words_agree.Goals as goal

pub returns : goal.returns
returns c d scope ops ps es s u last group given answered = words_agree d scope ops ps es s u last group given answered
