use Rattle.sp_part_runs.proofs.WordsCarried.{words_go_along}
use Rattle.sp_part_runs.proofs.words.words_go_along.Goals as goal

pub returns : goal.returns
returns c = words_go_along
