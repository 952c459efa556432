-- The refusals of an expression, those of an expression before those of its parts.
use Rattle.std.specs.Prelude.{◌≡◌, ℕ, ◌-◌, ◌^◌, ◌+◌, ◌&&◌, ◌||◌, ◌==◌, Bool, true, false, not, if◌then◌else◌, List, [], ◌∷◌, ◌++◌, length, min, Option, Some, None, is_none}
use Rattle.sp_words.specs.declared.kind.BinOp.{BinOp}
use Rattle.sp_words.specs.declared.kind.Kind.{Kind}
use Rattle.sp_words.specs.declared.kind.Kind.TheVariants.{Reg, Sram, Fifo, LineBuf, Dram, ArgIn, ArgOut}
use Rattle.sp_words.specs.declared.types.Ty.{Ty}
use Rattle.sp_words.specs.declared.types.Ty.TheVariants.{Fix, Bit}
use Rattle.sp_words.specs.Types.{int_type}
use Rattle.sp_reader.specs.declared.syntax.expression.SynTy.{SynTy}
use Rattle.sp_reader.specs.declared.syntax.expression.SynUn.{SynUn}
use Rattle.sp_reader.specs.declared.syntax.expression.SynUn.TheVariants.{Minus, Bang, Tilde}
use Rattle.sp_reader.specs.PlainTree.{PlainIdent, PlainDigits, PlainExpr, PlainExprKind, PlainExprs, expr, number, truth, name, deq, access, mux, min as lesser, max as greater, one, two, shift, cast, no_expr, more_expr}
use Rattle.sp_types.specs.declared.own.Own.{Own}
use Rattle.sp_types.specs.declared.own.Own.TheVariants.{Nothing, Known, Unknown}
use Rattle.sp_types.specs.declared.own.Ask.{Ask}
use Rattle.sp_types.specs.declared.refusal.Found.{Found}
use Rattle.sp_types.specs.declared.refusal.Found.TheVariants.{Typed, Literal}
use Rattle.sp_types.specs.declared.refusal.Refusal.{Refusal}
use Rattle.sp_types.specs.declared.refusal.Rule.TheVariants.{UnknownName, Twice, Misused, Rank, TypeClash, ParPlace}
use Rattle.sp_types.specs.First.{one_if, refused}
use Rattle.sp_types.specs.Literal.{literal_word}
use Rattle.sp_types.specs.Types.{is_type, type_of, type_place, own, kind_own, own_or_int, compared_at, is_comparison, takes_numbers}
use Rattle.sp_types.specs.Visible.{PlainSymbol, memory, value, counter, Visible, symbol_of, is_busy}

-- a number as it is told in a refusal
abbrev pub told : ℕ → ℕ
told n = min n 4294967295

-- ---- names

-- a name that isn't visible, or that of an accumulator around
abbrev pub name_refusals : Visible → PlainIdent → List Refusal
name_refusals seen i = one_if (is_none (symbol_of seen i.text)) (refused i.place UnknownName) ++ one_if (is_busy seen i.text) (refused i.place Misused)

-- what can stand as a value by its name alone, and with `.value`
abbrev pub is_value : Bool → Option PlainSymbol → Bool
is_value dotted (Some (memory Reg ty dims)) = true
is_value dotted (Some (memory ArgIn ty dims)) = true
is_value dotted (Some (memory _ ty dims)) = false
is_value dotted (Some (value ty)) = not dotted
is_value dotted (Some counter) = not dotted
is_value dotted None = true

-- a memory of a kind, or a name that isn't visible
abbrev pub is_kind : Kind → Kind → Bool
is_kind Reg Reg = true
is_kind Sram Sram = true
is_kind Fifo Fifo = true
is_kind LineBuf LineBuf = true
is_kind Dram Dram = true
is_kind ArgIn ArgIn = true
is_kind ArgOut ArgOut = true
is_kind _ _ = false

abbrev pub may_be : Kind → Option PlainSymbol → Bool
may_be kind (Some (memory other ty dims)) = is_kind kind other
may_be kind (Some (value ty)) = false
may_be kind (Some counter) = false
may_be kind None = true

-- how many indices an access has: none where there is no access
abbrev pub read_rank : Option PlainSymbol → Option ℕ
read_rank (Some (memory Sram ty dims)) = Some (length dims)
read_rank (Some (memory LineBuf ty dims)) = Some 2
read_rank (Some (memory Dram ty dims)) = None
read_rank (Some (memory ArgOut ty dims)) = None
read_rank (Some (memory Reg ty dims)) = Some 0
read_rank (Some (memory Fifo ty dims)) = Some 0
read_rank (Some (memory ArgIn ty dims)) = Some 0
read_rank (Some (value ty)) = Some 0
read_rank (Some counter) = Some 0
read_rank None = None

abbrev pub count_refusals : ℕ → (want got : ℕ) → List Refusal
count_refusals place want got = one_if (not (want == got)) (refused place (Rank (told want) (told got)))

-- a read of what has no reads, or with another number of indices
abbrev pub access_refusals : ℕ → Option PlainSymbol → (got : ℕ) → List Refusal
access_refusals place None got = []
access_refusals place (Some s) got = elim (read_rank (Some s)) [
  | Some want ↦ count_refusals place want got
  | None ↦ refused place Misused ∷ []
]

-- ---- types

abbrev pub clash : ℕ → Ty → Found → Refusal
clash place want got = refused place (TypeClash want got)

-- an expression whose type is another than the one at which it is checked
abbrev pub other_type : ℕ → Option Ty → Own → List Refusal
other_type place (Some want) (Known got) = one_if (not (is_type want got)) (clash place want (Typed got))
other_type place (Some want) Nothing = []
other_type place (Some want) Unknown = []
other_type place None got = []

-- a `Bit` where a number is wanted
abbrev pub is_bit : Own → Bool
is_bit (Known Bit) = true
is_bit _ = false

abbrev pub no_number : ℕ → Bool → Own → List Refusal
no_number place must got = one_if (must && is_bit got) (clash place int_type (Typed Bit))

-- a literal that has no word of the type at which it is checked
abbrev pub literal_refusals : ℕ → Option Ty → PlainDigits → List Refusal
literal_refusals place (Some want) d = one_if (is_none (literal_word want d)) (clash place want Literal)
literal_refusals place None d = []

-- a type that is none
abbrev pub type_refusals : SynTy → List Refusal
type_refusals ty = one_if (is_none (type_of ty)) (clash (type_place ty) int_type Literal)

-- ---- how expressions and their operands are checked

abbrev pub at_type : Option Ty → (still : Bool) → Ask
at_type want still = record { want = want; still = still; number = false }

-- an operand that is checked as the expression is
abbrev pub operand : Ask → (must : Bool) → Ask
operand ask must = record { want = ask.want; still = ask.still; number = must }

-- the operand of a prefix, and those of an operator
abbrev pub unary_ask : SynUn → Ask → Ask
unary_ask Minus ask = operand ask true
unary_ask Tilde ask = operand ask true
unary_ask Bang ask = at_type (Some Bit) ask.still

abbrev pub binary_ask : Visible → BinOp → Ask → PlainExpr → PlainExpr → Ask
binary_ask seen op ask a b = record { want = if is_comparison op then compared_at seen a b else ask.want; still = ask.still; number = takes_numbers op }

abbrev pub index_count : PlainExprs → ℕ
index_count no_expr = 0
index_count (more_expr e rest) = index_count rest + 1

-- the type at which the operand of a cast is checked: a literal at the cast's, any other by itself
abbrev pub cast_from : Visible → PlainExpr → SynTy → Option Ty
cast_from seen (expr place (number d)) ty = type_of ty
cast_from seen e ty = own_or_int (own seen e)

abbrev mutual
  pub expr_refusals : Visible → Ask → PlainExpr → List Refusal
  expr_refusals seen ask (expr place kind) =
      other_type place ask.want (kind_own seen kind) ++ no_number place ask.number (kind_own seen kind) ++ kind_refusals seen ask place kind

  pub kind_refusals : Visible → Ask → ℕ → PlainExprKind → List Refusal
  kind_refusals seen ask place (number d) = literal_refusals place ask.want d
  kind_refusals seen ask place (truth b) = []
  kind_refusals seen ask place (name i dotted) =
      name_refusals seen i ++ one_if (not (is_value dotted (symbol_of seen i.text))) (refused i.place Misused)
  kind_refusals seen ask place (deq i) =
      name_refusals seen i ++ one_if (ask.still || not (may_be Fifo (symbol_of seen i.text))) (refused i.place Misused)
  kind_refusals seen ask place (access i indices) =
      name_refusals seen i ++ access_refusals i.place (symbol_of seen i.text) (index_count indices) ++ exprs_refusals seen (at_type (Some int_type) ask.still) indices
  kind_refusals seen ask place (mux c a b) =
      expr_refusals seen (at_type (Some Bit) ask.still) c ++ expr_refusals seen (operand ask false) a ++ expr_refusals seen (operand ask false) b
  kind_refusals seen ask place (lesser a b) = expr_refusals seen (operand ask true) a ++ expr_refusals seen (operand ask true) b
  kind_refusals seen ask place (greater a b) = expr_refusals seen (operand ask true) a ++ expr_refusals seen (operand ask true) b
  kind_refusals seen ask place (one op a) = expr_refusals seen (unary_ask op ask) a
  kind_refusals seen ask place (two op a b) =
      expr_refusals seen (binary_ask seen op ask a b) a ++ expr_refusals seen (binary_ask seen op ask a b) b
  kind_refusals seen ask place (shift left a by) = expr_refusals seen (operand ask true) a
  kind_refusals seen ask place (cast a ty) = expr_refusals seen (at_type (cast_from seen a ty) ask.still) a ++ type_refusals ty

  pub exprs_refusals : Visible → Ask → PlainExprs → List Refusal
  exprs_refusals seen ask no_expr = []
  exprs_refusals seen ask (more_expr e rest) = expr_refusals seen ask e ++ exprs_refusals seen ask rest
