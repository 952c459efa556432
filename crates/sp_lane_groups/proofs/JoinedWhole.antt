-- Words of lanes, joined by an operator that is balanced.
use Rattle.std.proofs.Common.{length, ◌∷◌, refl}
use Rattle.sp_core.specs.PlainCore.{PlainCore}
use Rattle.sp_lane_groups.specs.JoinedLaws.{JoinedWordsStand}
use Rattle.sp_lane_groups.proofs.JoinedBalanced.{Laws, is_grouped, is_closed}
use Rattle.sp_lane_groups.proofs.JoinedLive.{lanes_first}
use Rattle.sp_lane_groups.proofs.JoinedRounds.{joined}

pub words_join : (core : PlainCore) → Laws → JoinedWordsStand core
words_join core laws scope counter op ty word balanced es bodies g groups t h e =
    joined core scope counter op ty (length bodies) (lanes_first (scope counter).live es bodies (g ∷ groups) h) (is_closed laws op ty balanced) (is_grouped laws op ty balanced) word es bodies g groups t refl h e
