-- What the operations of a list did, one by one: by the words of those before it, what the entry of each tells.
use Rattle.std.specs.Prelude.{◌≡◌, ℕ, ◌-◌, ◌^◌, ◌<◌, Bool, true, false, List, length, map, take, slice_index, slice_index_or}
use Rattle.std.specs.List.{All}
use Rattle.sp_words.specs.declared.types.Ty.{Ty}
use Rattle.sp_words.specs.Types.{int_type}
use Rattle.sp_words.specs.Words.{IsWord, word_cast}
use Rattle.sp_core.specs.declared.operation.OpKind.{OpKind}
use Rattle.sp_core.specs.declared.operation.OpKind.TheVariants.{Word, Count, Live, Read, Write, Enq, Deq, Reset, One, Two, Shift, Mux, Cast}
use Rattle.sp_core.specs.Elements.{index_value, natural}
use Rattle.sp_core.specs.History.{Entry, left_out, gave, touched, word_at}
use Rattle.sp_core.specs.Operations.{is_masked}
use Rattle.sp_core.specs.Operators.{bit, one_word, two_word, shifted, chosen}
use Rattle.sp_core.specs.PlainCore.{PlainOp}
use Rattle.sp_core.specs.Scope.{Scope, is_some_live, count_word}

abbrev pub touches_memory : OpKind → Bool
touches_memory Read = true
touches_memory Write = true
touches_memory Enq = true
touches_memory Deq = true
touches_memory Reset = true
touches_memory _ = false

-- the word of an operation that touches no memory, by the words that it takes
abbrev pub computed_word : Scope → OpKind → Ty → List ℕ → ℕ
computed_word scope (Word w) ty ws = w
computed_word scope (Count c lane) ty ws = count_word (scope c) lane
computed_word scope (Live c first last) ty ws = bit (is_some_live (scope c).live first last)
computed_word scope (One op) ty ws = one_word op ty (slice_index ws 0)
computed_word scope (Two op) ty ws = two_word op ty (slice_index ws 0) (slice_index ws 1)
computed_word scope (Shift left by) ty ws = shifted left ty (slice_index ws 0) by
computed_word scope Mux ty ws = chosen (slice_index ws 0) (slice_index ws 1) (slice_index ws 2)
computed_word scope (Cast to) ty ws = word_cast ty to (slice_index ws 0)
computed_word scope kind ty ws = 0

-- the indices at which an access touches its memory, and the word that it writes or puts
abbrev pub index_of : ℕ → ℕ
index_of w = natural (index_value w)

abbrev pub touched_at : OpKind → List ℕ → List ℕ
touched_at Read ws = map index_of ws
touched_at Write ws = map index_of (take (length ws - 1) ws)
touched_at kind ws = List.[]

-- of the words that an access takes those of its indices
abbrev pub index_words : OpKind → List ℕ → List ℕ
index_words Read ws = ws
index_words Write ws = take (length ws - 1) ws
index_words kind ws = List.[]

abbrev pub changes_by_word : OpKind → Bool
changes_by_word Write = true
changes_by_word Enq = true
changes_by_word _ = false

abbrev pub word_that_changes : OpKind → List ℕ → ℕ
word_that_changes Write ws = slice_index ws (length ws - 1)
word_that_changes Enq ws = slice_index ws 0
word_that_changes kind ws = 0

-- the entry of an access that was made; its indices have no sign
pub record IsTouch (kind : OpKind) (ws : List ℕ) (e : Entry) : Type 0 where
  pub word : ℕ
  pub entry : e ≡ touched (touched_at kind ws) word
  pub changed : changes_by_word kind ≡ true → word ≡ word_that_changes kind ws
  pub small : All (λ w. IsWord int_type w → w < 2 ^ 31) (index_words kind ws)

-- what an operation did after others
pub record Did (scope : Scope) (op : PlainOp) (done : List Entry) (e : Entry) : Type 0 where
  pub masked : is_masked op.mask done ≡ true → e ≡ left_out
  pub computes : is_masked op.mask done ≡ false → touches_memory op.kind ≡ false → e ≡ gave (computed_word scope op.kind op.ty (map (word_at done) op.args))
  pub touches : is_masked op.mask done ≡ false → touches_memory op.kind ≡ true → IsTouch op.kind (map (word_at done) op.args) e

-- the operation at a place of a list
pub record IsOpAt (ops : List PlainOp) (k : ℕ) (op : PlainOp) : Type 0 where
  pub within : k < length ops
  pub is : (other : PlainOp) → slice_index_or ops k other ≡ op

abbrev pub entry_at : List Entry → ℕ → Entry
entry_at es k = slice_index_or es k left_out

-- the entries of a list
pub record AreEntries (scope : Scope) (ops : List PlainOp) (es : List Entry) : Type 0 where
  pub each : length es ≡ length ops
  pub did : (k : ℕ) (op : PlainOp) → IsOpAt ops k op → Did scope op (take k es) (entry_at es k)

-- the indices of the accesses of a list are words of `Int`
abbrev pub IndicesAreWords : List PlainOp → List Entry → Type 0
IndicesAreWords ops es = (k : ℕ) (op : PlainOp) → IsOpAt ops k op → All (IsWord int_type) (index_words op.kind (map (word_at (take k es)) op.args))
