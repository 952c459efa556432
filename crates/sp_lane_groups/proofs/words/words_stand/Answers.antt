use Rattle.sp_lane_groups.proofs.WordsGroup.{words_go}
use Rattle.sp_lane_groups.proofs.words.words_stand.Goals as goal

pub returns : goal.returns
returns c core = words_go core
