use Rattle.sp_part_runs.proofs.WordsNumbers.{numbers_go_round}
use Rattle.sp_part_runs.proofs.words.numbers_go_round.Goals as goal

pub returns : goal.returns
returns c = numbers_go_round
