use Rattle.std.proofs.Common.{◌≡◌, ◌++◌, drop, map}
use Rattle.sp_lanes.specs.Joined.{lane_words}
use Rattle.sp_unroll.specs.Bodies.{plain_body}
use Rattle.sp_unroll.specs.Words.{plain_word}
use Rattle.sp_unroll.proofs.joined.lane_words.Given as goal

abbrev pub invariant-loop-body : goal.invariant-loop-body
invariant-loop-body l = map plain_word l.words.items ++ lane_words l.lane l.word (map plain_body (drop l.body-index l.lanes)) ≡ lane_words 0 l.word (map plain_body l.lanes)
