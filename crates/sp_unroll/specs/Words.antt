-- Words of lanes, combinations and moves of places, without where they lie in memory.
use Rattle.std.specs.Prelude.{ℕ, suc, ◌+◌, ◌-◌, nat_le, List, [], ◌∷◌, Option, Some, None, if◌then◌else◌}
use Rattle.sp_lanes.specs.Combined as plain
use Rattle.sp_core.specs.PlainCore.{PlainOp}
use Rattle.sp_lanes.specs.Bodies.{Body}
use Rattle.sp_lanes.specs.Combined.{meeting, takes, moved_place, after_joined, in_order}
use Rattle.sp_lanes.specs.Joined as joined
use Rattle.sp_lanes.specs.Joined.{is_balanced, lane_words}
use Rattle.sp_unroll.specs.declared.joined.LaneWord.{LaneWord}
use Rattle.sp_unroll.specs.declared.combined.Meeting.{Meeting}
use Rattle.sp_unroll.specs.declared.moved.Move.{Move}
use Rattle.sp_unroll.specs.declared.moved.Ended.{Ended}

abbrev pub plain_word : LaneWord → joined.LaneWord
plain_word w = record { place = w.place; first = w.first; last = w.last; mask = w.mask }

abbrev pub mask_or_zero : Option ℕ → ℕ
mask_or_zero mask = elim mask [ Some place ↦ place | None ↦ 0 ]

abbrev pub plain_meeting : Meeting → plain.Meeting
plain_meeting m = record { operator = m.operator; ty = m.ty; word = m.word }

-- where a place of the combination is found; those from the end of what comes before the meetings on are found after the
-- last meeting
abbrev pub ended_at : Option Ended → (ℕ → ℕ) → ℕ → ℕ
ended_at None here k = here k
ended_at (Some e) here k = if nat_le e.ended k then e.stands + (k - e.ended) else here k

abbrev pub here_of : Move → (places : List ℕ) → ℕ → ℕ
here_of m places = moved_place m.first m.at m.word m.to places

abbrev pub move_of : Move → Option Ended → (places : List ℕ) → ℕ → ℕ
move_of m ended places = ended_at ended (here_of m places)

-- a meeting that was found, or else another
abbrev pub met_first : Option Meeting → plain.Meeting → plain.Meeting
met_first (Some m) rest = plain_meeting m
met_first None rest = rest

-- a combination of the words of these bodies, from a place on
abbrev pub combined_at : (counter first : ℕ) → List Body → (at : ℕ) → (combination : List PlainOp) → List PlainOp
combined_at counter first bodies at combination =
    let m : plain.Meeting = meeting combination in
    let words : List joined.LaneWord = lane_words 0 m.word bodies in
    if is_balanced m.operator m.ty then after_joined counter first bodies at m words combination else in_order counter first bodies at m words combination

-- the count up to the last operation that takes a word, by the one before and where the operations stand
abbrev pub last_after : (word was at : ℕ) → List PlainOp → ℕ
last_after word was at [] = was
last_after word was at (op ∷ ops) = last_after word (if takes word op then suc at else was) (suc at) ops
