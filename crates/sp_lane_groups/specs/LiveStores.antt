-- What the memories of a core hold, and what those of the same core in lanes do, where a part of it stands.
use Rattle.std.specs.Prelude.{◌≡◌, ◌<◌, ℕ, suc, true, List, [], ◌∷◌, length, Option, None, Some, ◌*◌, ℤ, pos, ◌+ℤ◌}
use Rattle.sp_core.specs.declared.operation.OpKind.{OpKind}
use Rattle.sp_core.specs.declared.operation.OpKind.TheVariants.{Count, Live}
use Rattle.sp_core.specs.Around.{Around, is_usable}
use Rattle.sp_core.specs.Declarations.{room}
use Rattle.sp_core.specs.History.{Entry, word_at}
use Rattle.sp_core.specs.PlainCore.{PlainOp, PlainCounter, PlainCore}
use Rattle.sp_core.specs.Scope.{Scope, count_word}
use Rattle.sp_core.specs.Store.{Store}
use Rattle.sp_lanes.specs.Order.{memory_order, occurrence}
use Rattle.sp_lanes.specs.Shared.{is_read}
use Rattle.sp_lanes.specs.Within.{Within}
use Rattle.sp_lane_rules.specs.Copies.{occurrences}

-- a number is that of a copy of a memory
abbrev pub IsCopy : (order : List ℕ) → (m n : ℕ) → Type 0
IsCopy order m n = (k : ℕ) × (k < occurrences m order) × (occurrence m k order ≡ n)

module _ (core : PlainCore) (around : Around) (w : Within) where
  -- what may be used at a place stands there for a copy of it
  abbrev pub AreCopies : Type 0
  AreCopies = (m : ℕ) → is_usable core around m ≡ true → IsCopy (memory_order core) m (w.number m)

  -- and has room for as many words
  abbrev pub HaveRoom : (lanes : PlainCore) → Type 0
  HaveRoom lanes = (m : ℕ) → is_usable core around m ≡ true → room lanes (w.number m) ≡ room core m

  -- a memory that may be used holds what its copy does
  abbrev pub HoldAlike : (plain in_lanes : Store) → Type 0
  HoldAlike s t = (m : ℕ) → is_usable core around m ≡ true → t (w.number m) ≡ s m

  -- what stands for no memory here holds what it did
  abbrev pub LeavesOthers : (before after : Store) → Type 0
  LeavesOthers t after = (n : ℕ) → ((m : ℕ) → is_usable core around m ≡ true → w.number m ≡ n → ⊥) → after n ≡ t n

-- a counter's word in the lane in which a place stands is its word in the core
abbrev pub ScopesAgree : Within → (plain in_lanes : Scope) → Type 0
ScopesAgree w plain in_lanes = (c : ℕ) → count_word (in_lanes c) (w.lane c) ≡ count_word (plain c) 0

-- the values of counters in a lane of a group, of which only the last one goes on by its step from lane to lane
abbrev pub lane_values : List PlainCounter → (lane : ℕ) → List ℤ → List ℤ
lane_values (c ∷ []) lane (v ∷ values) = (v +ℤ pos (lane * c.by)) ∷ values
lane_values (c ∷ counters) lane (v ∷ values) = v ∷ lane_values counters lane values
lane_values _ lane values = values

-- operations of a core whose lanes don't stand one after the other: counters are named in lane 0, and no mask of a lane is
abbrev pub IsPlainKind : OpKind → Type 0
IsPlainKind (Count c lane) = lane ≡ 0
IsPlainKind (Live c first last) = ⊥
IsPlainKind kind = Unit {0}

abbrev pub ArePlain : List PlainOp → Type 0
ArePlain [] = Unit {0}
ArePlain (op ∷ ops) = IsPlainKind op.kind × ArePlain ops

-- operations of a list, from a place on, that stand already: each is a read, and where it stands is the word that it gives in a
-- run of the whole list
abbrev pub AreStanding : (done es : List Entry) → (place : ℕ) → List PlainOp → List (Option ℕ) → Type 0
AreStanding done es k [] [] = Unit {0}
AreStanding done es k (op ∷ ops) (None ∷ others) = AreStanding done es (suc k) ops others
AreStanding done es k (op ∷ ops) (Some p ∷ others) = (is_read op.kind ≡ true) × (p < length done) × (word_at done p ≡ word_at es k) × AreStanding done es (suc k) ops others
AreStanding done es k _ _ = ⊥
