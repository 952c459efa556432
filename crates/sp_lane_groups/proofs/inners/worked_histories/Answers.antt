use Rattle.std.proofs.Common.{List, [], ◌∷◌, refl}
use Rattle.sp_words.specs.WholeNumbers.{modulo, floor_div}
use Rattle.sp_words.specs.Words.{value_of, has_sign, wrap}
use Rattle.sp_lane_groups.specs.InnersAlike.{body, looped, no_groups, more_groups, together, all_lanes, with_one, without, lane_over, stage_ran, nothing, past}
use Rattle.sp_lane_groups.specs.InnersExamples.{iteration}
use Rattle.sp_lane_groups.proofs.inners.worked_histories.Goals as goal

pub returns : goal.returns
unfolding value_of has_sign wrap modulo floor_div
returns c =
    looped
    (more_groups {rs = iteration ∷ iteration ∷ []} (together refl (with_one refl (stage_ran body lane_over) (with_one refl (stage_ran body lane_over) all_lanes)) (past nothing))
    (more_groups {rs = iteration ∷ []} (together refl (with_one refl (stage_ran body lane_over) (without refl all_lanes)) (past nothing)) no_groups))
