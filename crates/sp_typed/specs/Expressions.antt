-- The typed expression that an expression of a tree without refusals spells, at the type at which it is checked.
use Rattle.std.specs.Prelude.{ℕ, Bool, true, false, if◌then◌else◌, Option, Some, None}
use Rattle.sp_words.specs.declared.kind.BinOp.{BinOp}
use Rattle.sp_words.specs.declared.kind.BinOp.TheVariants.{Min, Max}
use Rattle.sp_words.specs.declared.kind.Kind.TheVariants.{Reg, LineBuf, ArgIn}
use Rattle.sp_words.specs.declared.kind.UnOp.TheVariants.{Neg, Not}
use Rattle.sp_words.specs.declared.types.Ty.{Ty}
use Rattle.sp_words.specs.declared.types.Ty.TheVariants.{Bit}
use Rattle.sp_words.specs.Types.{int_type}
use Rattle.sp_reader.specs.declared.syntax.expression.SynUn.TheVariants.{Minus, Bang, Tilde}
use Rattle.sp_reader.specs.PlainTree.{PlainIdent, PlainDigits, PlainExpr, PlainExprKind, PlainExprs, expr, number, truth, name, deq, access, mux, min, max, one, two, shift, cast, no_expr, more_expr}
use Rattle.sp_tree.specs.PlainExpression as program
use Rattle.sp_types.specs.Literal.{literal_word}
use Rattle.sp_types.specs.Types.{is_comparison, compared_at, own, own_or_int, symbol_type}
use Rattle.sp_types.specs.Visible.{PlainSymbol, memory, value, counter}
use Rattle.sp_typed.specs.Named.{Meant, Here, meant_by, seen_at}

-- a type that is known, as all are in a tree without refusals
abbrev pub known : Option Ty → Ty
known (Some ty) = ty
known None = int_type

-- the type at which an expression is checked that has no other
abbrev pub type_by_itself : Here → PlainExpr → Ty
type_by_itself here e = known (own_or_int (own (seen_at here) e))

-- ---- names

abbrev pub number_if : Option Meant → ℕ
number_if (Some m) = m.number
number_if None = 0

-- the number of what a name stands for
abbrev pub number_of : Here → PlainIdent → ℕ
number_of here i = number_if (meant_by here i.text)

abbrev pub symbol_if : Option Meant → Option PlainSymbol
symbol_if (Some m) = Some m.symbol
symbol_if None = None

-- what it stands for
abbrev pub symbol_at : Here → PlainIdent → Option PlainSymbol
symbol_at here i = symbol_if (meant_by here i.text)

-- the type of its words
abbrev pub word_type : Here → PlainIdent → Ty
word_type here i = known (symbol_type (symbol_at here i))

-- the word of a register, an argument, a value or a counter
abbrev pub named_word : ℕ → Option PlainSymbol → program.PlainExprKind
named_word n (Some (memory Reg ty dims)) = program.get_reg n
named_word n (Some (memory ArgIn ty dims)) = program.get_arg n
named_word n (Some (memory _ ty dims)) = program.literal 0
named_word n (Some (value ty)) = program.value n
named_word n (Some counter) = program.counter n
named_word n None = program.literal 0

-- ---- literals

abbrev pub word_if : Option ℕ → ℕ
word_if (Some w) = w
word_if None = 0

-- the word of a number at a type: the greatest that isn't above it
abbrev pub number_word : Ty → PlainDigits → ℕ
number_word ty d = word_if (literal_word ty d)

abbrev pub truth_word : Bool → ℕ
truth_word b = if b then 1 else 0

-- the number that an expression is, if it is one
abbrev pub digits_of : PlainExpr → Option PlainDigits
digits_of (expr place (number d)) = Some d
digits_of (expr place _) = None

-- a number that is cast is a literal of the type, and any other expression is cast from a type of its own
abbrev pub cast_if : Option PlainDigits → Ty → program.PlainExpr → program.PlainExprKind
cast_if (Some d) ty e = program.literal (number_word ty d)
cast_if None ty e = program.cast e

-- ---- accesses

-- a line buffer is read at a row and a column
abbrev pub line_element : ℕ → program.PlainExprs → program.PlainExprKind
line_element n (program.more_expr row (program.more_expr column program.no_expr)) = program.get_line n row column
line_element n _ = program.literal 0

abbrev pub is_line : Option PlainSymbol → Bool
is_line (Some (memory LineBuf ty dims)) = true
is_line _ = false

-- the element of a line buffer or of an SRAM
abbrev pub element : (line : Bool) → ℕ → program.PlainExprs → program.PlainExprKind
element true n indices = line_element n indices
element false n indices = program.get_sram n indices

-- ---- expressions

-- the type of an operator's operands, by that of the operation: a comparison is of two numbers of a type of their own
abbrev pub operand_type : Here → BinOp → Ty → PlainExpr → PlainExpr → Ty
operand_type here op ty a b = if is_comparison op then known (compared_at (seen_at here) a b) else ty

abbrev mutual
  -- an expression is of the type at which it is checked
  pub typed : Here → Ty → PlainExpr → program.PlainExpr
  typed here ty (expr place kind) = program.expr place ty (kind_typed here ty kind)

  pub kind_typed : Here → Ty → PlainExprKind → program.PlainExprKind
  kind_typed here ty (number d) = program.literal (number_word ty d)
  kind_typed here ty (truth b) = program.literal (truth_word b)
  kind_typed here ty (name i dotted) = named_word (number_of here i) (symbol_at here i)
  kind_typed here ty (deq i) = program.deq (number_of here i)
  kind_typed here ty (access i indices) = element (is_line (symbol_at here i)) (number_of here i) (all_typed here int_type indices)
  kind_typed here ty (mux c a b) = program.mux (typed here Bit c) (typed here ty a) (typed here ty b)
  kind_typed here ty (min a b) = program.two Min (typed here ty a) (typed here ty b)
  kind_typed here ty (max a b) = program.two Max (typed here ty a) (typed here ty b)
  kind_typed here ty (one Minus a) = program.one Neg (typed here ty a)
  kind_typed here ty (one Bang a) = program.one Not (typed here Bit a)
  kind_typed here ty (one Tilde a) = program.one Not (typed here ty a)
  kind_typed here ty (two op a b) = program.two op (typed here (operand_type here op ty a b) a) (typed here (operand_type here op ty a b) b)
  kind_typed here ty (shift left a by) = program.shift left (typed here ty a) by
  kind_typed here ty (cast a target) = cast_if (digits_of a) ty (typed here (type_by_itself here a) a)

  pub all_typed : Here → Ty → PlainExprs → program.PlainExprs
  all_typed here ty no_expr = program.no_expr
  all_typed here ty (more_expr e rest) = program.more_expr (typed here ty e) (all_typed here ty rest)
