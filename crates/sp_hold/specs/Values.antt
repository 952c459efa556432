-- The values of counters and symbols where a list of operations runs, and when a word is what a form comes to.
use Rattle.std.specs.Prelude.{◌≡◌, ℕ, suc, ◌^◌, Bool, true, false, ℤ, pos, neg_ℤ, ◌≤ℤ◌, List, [], ◌∷◌, Option, Some, None, IfSome, slice_index_or, nat_lt, nat_le, ◌==◌, ◌&&◌, length}
use Rattle.std.specs.List.{AllZip, list_all}
use Rattle.sp_words.specs.declared.types.Ty.{Ty}
use Rattle.sp_words.specs.Types.{int_type}
use Rattle.sp_words.specs.Words.{wrap}
use Rattle.sp_affine.specs.Affine.{Affine, value_of}
use Rattle.sp_core.specs.declared.operation.OpKind.{OpKind}
use Rattle.sp_core.specs.declared.operation.OpKind.TheVariants.{Read, Write}
use Rattle.sp_core.specs.Declarations.{mem, dims}
use Rattle.sp_core.specs.Elements.{index_value}
use Rattle.sp_core.specs.History.{Entry, left_out, word_of}
use Rattle.sp_core.specs.OperationRules.{can}
use Rattle.sp_core.specs.PlainCore.{PlainOp, PlainCore}
use Rattle.sp_core.specs.Typed.{is_type}
use Rattle.sp_core.specs.Scope.{InGroup, Scope}
use Rattle.sp_patterns.specs.declared.place.CounterPlace.{CounterPlace}
use Rattle.sp_patterns.specs.Indices.{indices_at}
use Rattle.sp_patterns.specs.Forms.{is_around, is_steady, is_masked_alike}

-- a counter has in a scope this value, and goes on by so much from lane to lane
pub record IsCounter (g : InGroup) (v : ℤ) (by : ℕ) : Type 0 where
  pub value : g.value ≡ v
  pub step : g.lane_step ≡ by

-- the counters around have these values in a scope, but for those that a nearer one of their number hides
abbrev pub AreInScope : Scope → List CounterPlace → (values : List ℤ) → Type 0
AreInScope scope [] [] = Unit {0}
AreInScope scope (p ∷ places) (v ∷ values) = (is_around places p.id ≡ false → IsCounter (scope p.id) v p.lane_step) × AreInScope scope places values
AreInScope scope _ _ = ⊥

-- a word and a number are the same modulo 2^32
abbrev pub IsLike : (word : ℕ) → ℤ → Type 0
IsLike word z = wrap int_type (index_value word) ≡ wrap int_type z

-- each operation that has a form gave a word like the form's value
abbrev pub AreLike : (values : List ℤ) → (symbols : ℕ → ℤ) → List (Option Affine) → List Entry → Type 0
AreLike values symbols forms entries = AllZip (λ r e. IfSome r (λ f. IsLike (word_of e) (value_of f values symbols))) forms entries

abbrev pub did : Entry → Bool
did left_out = false
did _ = true

-- operations without a mask, and those under the mask of an access, did something
abbrev pub ArePassed : (mask : Option ℕ) → (place : ℕ) → List PlainOp → List Entry → Type 0
ArePassed mask k [] entries = Unit {0}
ArePassed mask k (op ∷ ops) entries = (is_masked_alike op.mask mask ≡ true → did (slice_index_or entries k left_out) ≡ true) × ArePassed mask (suc k) ops entries

-- masks are earlier operations of their list
abbrev pub is_earlier : Option ℕ → (place : ℕ) → Bool
is_earlier None k = true
is_earlier (Some m) k = nat_lt m k

abbrev pub are_masks_earlier : (place : ℕ) → List PlainOp → Bool
are_masks_earlier k [] = true
are_masks_earlier k (op ∷ ops) = is_earlier op.mask k && are_masks_earlier (suc k) ops

-- a word that is read from a memory that the list doesn't change is the memory's symbol
abbrev pub IsRead : PlainCore → (all : List PlainOp) → (symbols : ℕ → ℤ) → OpKind → Option ℕ → Entry → Type 0
IsRead core all symbols Read (Some m) e = is_steady (mem core m).kind all m ≡ true → did e ≡ true → IsLike (word_of e) (symbols m)
IsRead core all symbols kind m e = Unit {0}

abbrev pub AreRead : PlainCore → (all : List PlainOp) → (symbols : ℕ → ℤ) → (place : ℕ) → List PlainOp → List Entry → Type 0
AreRead core all symbols k [] entries = Unit {0}
AreRead core all symbols k (op ∷ ops) entries = IsRead core all symbols op.kind op.mem (slice_index_or entries k left_out) × AreRead core all symbols (suc k) ops entries

-- an operation that names a memory is an access that its kind allows
abbrev pub is_allowed_at : PlainCore → OpKind → Option ℕ → Bool
is_allowed_at core kind None = true
is_allowed_at core kind (Some m) = nat_lt m (length core.mems) && can kind (mem core m).kind (mem core m).start

-- and is of the memory's type
abbrev pub is_typed : PlainCore → Ty → Option ℕ → Bool
is_typed core ty None = true
is_typed core ty (Some m) = is_type ty (mem core m).ty

abbrev pub is_allowed : PlainCore → PlainOp → Bool
is_allowed core op = is_allowed_at core op.kind op.mem && is_typed core op.ty op.mem

-- a number of `Int`
abbrev pub IsInt : ℤ → Type 0
IsInt z = (neg_ℤ (pos (2 ^ 31)) ≤ℤ z) × (z ≤ℤ pos (2 ^ 31))

-- a value is in its range, where that is known
abbrev pub IsInRange : Option (ℤ × ℤ) → ℤ → Type 0
IsInRange r z = IfSome r (λ ends. (ends.0 ≤ℤ z) × (z ≤ℤ ends.1))

-- a coefficient, a range and a value for each counter
abbrev pub AreInRanges : (coefs : List ℤ) → List (Option (ℤ × ℤ)) → (values : List ℤ) → Type 0
AreInRanges [] [] [] = Unit {0}
AreInRanges (c ∷ coefs) (r ∷ ranges) (v ∷ values) = IsInRange r v × IsInt v × AreInRanges coefs ranges values
AreInRanges _ _ _ = ⊥

-- a range and a value for each counter
abbrev pub AreValues : List (Option (ℤ × ℤ)) → (values : List ℤ) → Type 0
AreValues [] [] = Unit {0}
AreValues (r ∷ ranges) (v ∷ values) = IsInRange r v × IsInt v × AreValues ranges values
AreValues _ _ = ⊥

-- a read takes as many words as its memory has indices, a write one more
abbrev pub takes : OpKind → (args indices : ℕ) → Bool
takes Read n i = n == i
takes Write n i = n == suc i
takes kind n i = true

-- what an access after some operations of its list keeps: its operands are earlier ones, as many as its memory asks, and no
-- dimension of the memory is greater than 2^26
pub record IsOrderly (core : PlainCore) (before : List PlainOp) (op : PlainOp) (memory : ℕ) : Type 0 where
  pub names : op.mem ≡ Some memory
  pub earlier : list_all (λ a. nat_lt a (length before)) op.args ≡ true
  pub taken : takes op.kind (length op.args) (indices_at core.mems op.mem) ≡ true
  pub small : list_all (λ d. nat_le d (2 ^ 26)) (dims core memory) ≡ true
