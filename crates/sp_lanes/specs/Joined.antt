-- Words of lanes that are joined in pairs: neighbours from the left, and a last one without a partner is kept, until one
-- word stands. Two words are joined by the operator, and by a choice on the right one's mask: where none of the right one's
-- lanes has an iteration, the left one stays.
use Rattle.std.specs.Prelude.{ℕ, zero, suc, ◌+◌, ◌-◌, ◌==◌, Bool, true, false, List, [], ◌∷◌, ◌++◌, length, slice_index, Option, Some, None}
use Rattle.sp_words.specs.declared.kind.BinOp.{BinOp}
use Rattle.sp_words.specs.declared.kind.BinOp.TheVariants.{Add, Mul, And, Or, Xor, Min, Max}
use Rattle.sp_words.specs.declared.types.Ty.{Ty}
use Rattle.sp_words.specs.Types.{frac_of}
use Rattle.sp_core.specs.declared.operation.OpKind.TheVariants.{Two, Mux}
use Rattle.sp_core.specs.PlainCore.{PlainOp}
use Rattle.sp_lanes.specs.Bodies.{Body, computes, live_op}

-- which operators give the same word in whatever order they are done
abbrev pub is_balanced : BinOp → Ty → Bool
is_balanced Add ty = true
is_balanced And ty = true
is_balanced Or ty = true
is_balanced Xor ty = true
is_balanced Min ty = true
is_balanced Max ty = true
is_balanced Mul ty = frac_of ty == 0
is_balanced _ ty = false

-- the place of a word of some lanes, the first and the last one of them; and of their mask, where that stands already
pub record LaneWord : Type 0 where
  pub place : ℕ
  pub first : ℕ
  pub last : ℕ
  pub mask : Option ℕ

-- operations, and words of lanes
pub record Round : Type 0 where
  pub ops : List PlainOp
  pub words : List LaneWord

-- the words at this place of the core's body, one in each lane
abbrev pub lane_words : (lane word : ℕ) → List Body → List LaneWord
lane_words l word [] = []
lane_words l word (b ∷ bodies) =
    record { place = slice_index b.places word; first = l; last = l; mask = Some b.mask } ∷ lane_words (suc l) word bodies

module _ (counter : ℕ) (op : BinOp) (ty : Ty) where
  -- the operator at a place, on the left word and the right one, and the choice between its word and the left one
  abbrev pub join_ops : (at mask left right : ℕ) → List PlainOp
  join_ops at mask left right = computes (Two op) ty (left ∷ right ∷ []) ∷ computes Mux ty (mask ∷ at ∷ left ∷ []) ∷ []

  abbrev pub joined_by : Option ℕ → (at : ℕ) → (left right : LaneWord) → List PlainOp
  joined_by (Some mask) at left right = join_ops at mask left.place right.place
  joined_by None at left right = live_op counter right.first right.last ∷ join_ops (suc at) at left.place right.place

  abbrev pub joined_word : (at : ℕ) → (left right : LaneWord) → LaneWord
  joined_word at left right =
      record { place = at + length (joined_by right.mask at left right) - 1; first = left.first; last = right.last; mask = None }

  -- once for each two neighbours
  abbrev pub one_round : (at : ℕ) → List LaneWord → Round
  one_round at (left ∷ right ∷ words) =
      let ops : List PlainOp = joined_by right.mask at left right in
      let others : Round = one_round (at + length ops) words in
      record { ops = ops ++ others.ops; words = joined_word at left right ∷ others.words }
  one_round at words = record { ops = []; words = words }

  -- so many rounds, at most
  abbrev pub rounds : (count at : ℕ) → List LaneWord → Round
  rounds zero at words = record { ops = []; words = words }
  rounds (suc count) at words =
      let r : Round = one_round at words in
      let more : Round = rounds count (at + length r.ops) r.words in
      record { ops = r.ops ++ more.ops; words = more.words }
