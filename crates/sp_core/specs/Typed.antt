-- The types of operations: of the word that one gives, if any, and of the words that it takes.
use Rattle.std.specs.Prelude.{ℕ, ◌==◌, Bool, true, false, ◌&&◌, not, List, [], ◌∷◌, ◌++◌, length, replicate, slice_index_or, Option, Some, None, if◌then◌else◌}
use Rattle.sp_words.specs.declared.kind.BinOp.{BinOp}
use Rattle.sp_words.specs.declared.kind.BinOp.TheVariants as binary
use Rattle.sp_words.specs.declared.kind.Kind.{Kind}
use Rattle.sp_words.specs.declared.kind.Kind.TheVariants.{Sram, LineBuf}
use Rattle.sp_words.specs.declared.types.Ty.{Ty}
use Rattle.sp_words.specs.declared.types.Ty.TheVariants.{Fix, Bit}
use Rattle.sp_words.specs.Types.{int_type}
use Rattle.sp_core.specs.declared.operation.OpKind.{OpKind}
use Rattle.sp_core.specs.declared.operation.OpKind.TheVariants.{Read, Write, Enq, Reset, One, Two, Shift, Mux, Cast}
use Rattle.sp_core.specs.PlainCore.{PlainOp, PlainMem}

abbrev pub is_same_flag : Bool → Bool → Bool
is_same_flag true b = b
is_same_flag false b = not b

-- whether two types are one
abbrev pub is_type : Ty → Ty → Bool
is_type Bit Bit = true
is_type (Fix a) (Fix b) = is_same_flag a.signed b.signed && ((a.whole == b.whole) && (a.frac == b.frac))
is_type _ _ = false

abbrev pub is_comparison : BinOp → Bool
is_comparison binary.Lt = true
is_comparison binary.Le = true
is_comparison binary.Gt = true
is_comparison binary.Ge = true
is_comparison binary.Eq = true
is_comparison binary.Ne = true
is_comparison _ = false

-- the type of the word that an operation gives; a write, an `enq` and a reset give none
abbrev pub given_type : OpKind → Ty → Option Ty
given_type Write ty = None
given_type Enq ty = None
given_type Reset ty = None
given_type (Two op) ty = Some (if is_comparison op then Bit else ty)
given_type (Cast to) ty = Some to
given_type _ ty = Some ty

-- how many indices an access to a memory has
abbrev pub rank_of : Kind → (dims : ℕ) → ℕ
rank_of Sram n = n
rank_of LineBuf n = n
rank_of _ n = 0

abbrev pub index_count : PlainMem → ℕ
index_count m = rank_of m.kind (length m.dims)

-- the types of the words that an operation takes, by the indices of the memory that it names
abbrev pub taken_types : OpKind → Ty → (indices : ℕ) → List Ty
taken_types Read ty n = replicate n int_type
taken_types Write ty n = replicate n int_type ++ ty ∷ []
taken_types Enq ty n = ty ∷ []
taken_types (One op) ty n = ty ∷ []
taken_types (Two op) ty n = ty ∷ ty ∷ []
taken_types (Shift left by) ty n = ty ∷ []
taken_types Mux ty n = Bit ∷ ty ∷ ty ∷ []
taken_types (Cast to) ty n = ty ∷ []
taken_types _ ty n = []

-- what each of the earlier operations of a list gives, in order
abbrev pub Given : Type 0
Given = List (Option Ty)

-- whether the one at a place is there, and gives a word of a type
abbrev pub is_given : Option Ty → Ty → Bool
is_given None ty = false
is_given (Some t) ty = is_type t ty

abbrev pub gives : Given → (place : ℕ) → Ty → Bool
gives earlier place ty = is_given (slice_index_or earlier place None) ty

-- whether places have words of these types, one for each
abbrev pub give_all : Given → (places : List ℕ) → List Ty → Bool
give_all earlier [] [] = true
give_all earlier (p ∷ places) (ty ∷ types) = gives earlier p ty && give_all earlier places types
give_all earlier _ _ = false

-- the last one of a list gives a word of a type
abbrev pub last_gives : List PlainOp → Ty → Bool
last_gives [] ty = false
last_gives (op ∷ []) ty = is_given (given_type op.kind op.ty) ty
last_gives (op ∷ rest) ty = last_gives rest ty
