-- What transfers take and move.
use Rattle.std.specs.Prelude.{◌≡◌, ℕ, ◌<◌, ◌^◌, true, All, Result, Ok, Err, List, [], ◌∷◌, length, slice_index_or, if◌then◌else◌}
use Rattle.sp_words.specs.declared.kind.Kind.TheVariants.{Sram, Dram}
use Rattle.sp_words.specs.declared.types.Ty.{Ty}
use Rattle.sp_words.specs.Interface.{IsCount, word_count}
use Rattle.sp_tree.specs.declared.statement.FaultKind.{FaultKind}
use Rattle.sp_tree.specs.declared.statement.FaultKind.TheVariants.{DramBounds}
use Rattle.sp_tree.specs.Accesses.{read_cell, write_cell, read_word, write_word}
use Rattle.sp_tree.specs.Elements.{row_major}
use Rattle.sp_tree.specs.Expressions.{dims}
use Rattle.sp_tree.specs.PlainProgram.{PlainMem}
use Rattle.sp_tree.specs.PlainStatement.{PlainSpan}
use Rattle.sp_tree.specs.Step.{Step, Went, went, ◌>>=◌, ◌>>◌, turn}
use Rattle.sp_tree.specs.Transfers as transfers
use Rattle.sp_tree.specs.Typing.{IsMem, SpansTyped}
use Rattle.sp_seq.specs.declared.slice.Part.{Part}
use Rattle.sp_seq.specs.declared.state.State.{State}
use Rattle.sp_seq.specs.declared.state.Stop.{Stop}
use Rattle.sp_seq.specs.declared.state.Stop.TheVariants.{Fault}
use Rattle.sp_seq.specs.Evaluating.{Setting}
use Rattle.sp_seq.specs.States.{store_of, halted}

-- a part of a slice
abbrev pub plain_part : Part → transfers.Part
plain_part p = if p.ranged then transfers.between p.from p.until else transfers.index p.from

abbrev pub plain_parts : List Part → List transfers.Part
plain_parts [] = []
plain_parts (p ∷ ps) = plain_part p ∷ plain_parts ps

-- how many ranges a part is
abbrev pub ranges_in : transfers.Part → ℕ
ranges_in (transfers.index i) = 0
ranges_in (transfers.between a b) = 1

-- how far into each range the k-th word of a slice is
unfoldable pub offsets_at : List transfers.Part → ℕ → List ℕ
offsets_at parts k = slice_index_or (transfers.all_offsets parts) k []

-- the ranges are no longer than these limits
pub record Limited (parts : List transfers.Part) (limits : List ℕ) : Type 0 where
  pub counts : All IsCount limits
  pub small : word_count limits < 2 ^ 32
  pub fit : transfers.do_fit limits (transfers.lengths parts) ≡ true
  pub same : length (transfers.lengths parts) ≡ length limits

-- a part that came back
abbrev pub shown : Result Part Stop → Result transfers.Part Stop
shown (Ok p) = Ok (plain_part p)
shown (Err stop) = Err stop

-- how many words are moved, or why none can be
abbrev pub extent_of : (dims : List ℕ) → List transfers.Part → (too_long : FaultKind) → (limits : List ℕ) → (place : ℕ) → Result ℕ Stop
extent_of dims parts too_long limits place =
    if transfers.has_none (transfers.lengths parts) then Ok 0
    else if transfers.are_parts_inside dims parts then (if transfers.do_fit limits (transfers.lengths parts) then Ok (word_count (transfers.lengths parts)) else Err (Fault too_long place))
    else Err (Fault DramBounds place)

-- a slice of a DRAM and an SRAM of one type, which it fits
pub record CanSlice (mems : List PlainMem) (s : State) (sram dram : ℕ) (parts : List transfers.Part) : Type 0 where
  pub setting : Setting mems s
  pub ty : Ty
  pub on_chip : IsMem setting.program setting.scope sram Sram ty
  pub outside : IsMem setting.program setting.scope dram Dram ty
  pub inside : transfers.are_parts_inside (dims mems dram) parts ≡ true
  pub limited : Limited parts (dims mems sram)

-- one word of a load, and of a store, so far into each range
module _ (mems : List PlainMem) (place sram dram : ℕ) (parts : List transfers.Part) where
  abbrev pub loaded : List ℕ → Step (Unit {0})
  loaded offsets = do
    word ← read_word dram (row_major (dims mems dram) (transfers.places_of parts offsets))
    turn
    write_cell sram (row_major (dims mems sram) offsets) word

  abbrev pub stored : List ℕ → Step (Unit {0})
  stored offsets = do
    word ← read_cell sram (row_major (dims mems sram) offsets) place
    turn
    write_word dram (row_major (dims mems dram) (transfers.places_of parts offsets)) word

-- spans that are typed under what is visible
pub record CanSpan (mems : List PlainMem) (spans : List PlainSpan) (s : State) : Type 0 where
  pub setting : Setting mems s
  pub typed : SpansTyped setting.program setting.scope spans

-- how a step went, by whether something came back, whatever it was
abbrev pub RanSome : {A : Type 0} → Went A → Result (Unit {0}) Stop → State → Type 0
RanSome {A} w (Ok u) t = (a : A) × (w ≡ went a t.left (store_of t))
RanSome {A} w (Err stop) t = w ≡ halted stop
