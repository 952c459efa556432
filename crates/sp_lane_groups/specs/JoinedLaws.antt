-- A law of words of lanes that are joined, as a statement.
use Rattle.std.specs.Prelude.{◌≡◌, ◌<◌, ℕ, true, List, ◌∷◌, ◌++◌, length}
use Rattle.sp_words.specs.declared.kind.BinOp.{BinOp}
use Rattle.sp_words.specs.declared.types.Ty.{Ty}
use Rattle.sp_core.specs.History.{Entry, word_at}
use Rattle.sp_core.specs.Operations.{operations_after}
use Rattle.sp_core.specs.Operators.{two_word}
use Rattle.sp_core.specs.PlainCore.{PlainCore}
use Rattle.sp_core.specs.Scope.{Scope}
use Rattle.sp_core.specs.Step.{went}
use Rattle.sp_core.specs.Store.{Store}
use Rattle.sp_lanes.specs.Bodies.{Body}
use Rattle.sp_lanes.specs.Combined.{first_place}
use Rattle.sp_lanes.specs.Joined.{LaneWord, Round, is_balanced, lane_words, rounds}
use Rattle.sp_lane_groups.specs.WordsStanding.{LanesStand}
use Rattle.sp_lane_groups.specs.JoinedWords.{in_turn, words_of, EachHasWord}

-- by an operator that is balanced, words of lanes that are joined in pairs are one word in the end: that of the lanes that have an
-- iteration, combined in order
abbrev pub JoinedWordsStand : PlainCore → Type 0
JoinedWordsStand core =
    (scope : Scope) (counter : ℕ) (op : BinOp) (ty : Ty) (word : ℕ) → is_balanced op ty ≡ true
    → (es : List Entry) (bodies : List Body) (g : List Entry) (groups : List (List Entry)) (t : Store) → LanesStand (scope counter).live es 0 bodies (g ∷ groups) → EachHasWord ty word (g ∷ groups)
    → let words : List LaneWord = lane_words 0 word bodies in let joined : Round = rounds counter op ty (length words) (length es) words in
    (new : List Entry) × (operations_after core scope es joined.ops t ≡ went (es ++ new) t)
    × (first_place joined.words < length (es ++ new)) × (word_at (es ++ new) (first_place joined.words) ≡ in_turn (two_word op ty) (word_at g word) (words_of word groups))
