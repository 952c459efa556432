use Rattle.sp_lane_rules.proofs.UnrolledLists.{word_list_kept, bound_kept}
use Rattle.sp_lane_rules.proofs.unrolled_rules.lists_keep_rules.Goals as goal

pub returns : goal.returns
returns c core lanes around inside w h ops = (word_list_kept core lanes around inside w h ops, bound_kept core lanes around inside w h ops)
