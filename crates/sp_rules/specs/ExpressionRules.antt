-- The rules of types for expressions: which are right at a type, one rule for each form.
use Rattle.std.specs.Prelude.{◌≡◌, ℕ, Bool, true, false, length, Option, Some}
use Rattle.sp_words.specs.declared.kind.Kind.TheVariants.{Reg, Sram, Fifo, LineBuf, ArgIn}
use Rattle.sp_words.specs.declared.types.Ty.{Ty}
use Rattle.sp_words.specs.declared.types.Ty.TheVariants.{Bit}
use Rattle.sp_words.specs.Types.{int_type}
use Rattle.sp_reader.specs.declared.syntax.expression.SynUn.TheVariants.{Minus, Bang, Tilde}
use Rattle.sp_reader.specs.PlainTree.{PlainIdent, PlainExpr, PlainExprKind, PlainExprs, expr, number, truth, name, deq, access, mux, min, max, one, two, shift, cast, no_expr, more_expr}
use Rattle.sp_tree.specs.Typing.{IsNumber}
use Rattle.sp_types.specs.Expressions.{index_count, cast_from}
use Rattle.sp_types.specs.Literal.{literal_word}
use Rattle.sp_types.specs.Types.{type_of, is_comparison, takes_numbers, compared_at}
use Rattle.sp_types.specs.Visible.{PlainSymbol, memory, value, counter, Visible, symbol_of, is_busy}

-- a name is visible, stands for this, and is that of no accumulator around
pub record Names (seen : Visible) (i : PlainIdent) (s : PlainSymbol) : Type 0 where
  pub is : symbol_of seen i.text ≡ Some s
  pub free : is_busy seen i.text ≡ false

-- what can stand as a value of a type by its name alone, and with `.value`
abbrev pub IsValue : Bool → PlainSymbol → Ty → Type 0
IsValue dotted (memory Reg t dims) ty = t ≡ Some ty
IsValue dotted (memory ArgIn t dims) ty = t ≡ Some ty
IsValue dotted (memory _ t dims) ty = ⊥
IsValue dotted (value t) ty = (dotted ≡ false) × (t ≡ Some ty)
IsValue dotted counter ty = (dotted ≡ false) × (int_type ≡ ty)

-- what has a word of a type at so many indices: an SRAM, or a line buffer at a row and a column
abbrev pub IsElement : PlainSymbol → ℕ → Ty → Type 0
IsElement (memory Sram t dims) n ty = (t ≡ Some ty) × (length dims ≡ n)
IsElement (memory LineBuf t dims) n ty = (t ≡ Some ty) × (2 ≡ n)
IsElement (memory _ t dims) n ty = ⊥
IsElement (value t) n ty = ⊥
IsElement counter n ty = ⊥

abbrev pub IsFifo : PlainSymbol → Ty → Type 0
IsFifo (memory Fifo t dims) ty = t ≡ Some ty
IsFifo (memory _ t dims) ty = ⊥
IsFifo (value t) ty = ⊥
IsFifo counter ty = ⊥

-- the type of an operation's operands: that of the operation, but for a comparison, which is a `Bit`
abbrev pub HasOperands : (comparison : Bool) → (compared : Option Ty) → (from ty : Ty) → Type 0
HasOperands true compared from ty = (compared ≡ Some from) × (ty ≡ Bit)
HasOperands false compared from ty = from ≡ ty

-- `still` says that the expression may take no word from a FIFO
module _ (seen : Visible) (still : Bool) where
  abbrev mutual
    pub IsRight : Ty → PlainExpr → Type 0
    IsRight ty (expr place kind) = IsRightKind ty kind

    pub IsRightKind : Ty → PlainExprKind → Type 0
    IsRightKind ty (number d) = (w : ℕ) × (literal_word ty d ≡ Some w)
    IsRightKind ty (truth b) = ty ≡ Bit
    IsRightKind ty (name i dotted) = (s : PlainSymbol) × Names seen i s × IsValue dotted s ty
    IsRightKind ty (deq i) = (s : PlainSymbol) × Names seen i s × IsFifo s ty × (still ≡ false)
    IsRightKind ty (access i indices) = (s : PlainSymbol) × Names seen i s × IsElement s (index_count indices) ty × AreRight int_type indices
    IsRightKind ty (mux c a b) = IsRight Bit c × IsRight ty a × IsRight ty b
    IsRightKind ty (min a b) = IsNumber ty × IsRight ty a × IsRight ty b
    IsRightKind ty (max a b) = IsNumber ty × IsRight ty a × IsRight ty b
    IsRightKind ty (one Minus a) = IsNumber ty × IsRight ty a
    IsRightKind ty (one Bang a) = (ty ≡ Bit) × IsRight Bit a
    IsRightKind ty (one Tilde a) = IsNumber ty × IsRight ty a
    IsRightKind ty (two op a b) =
        (from : Ty) × HasOperands (is_comparison op) (compared_at seen a b) from ty × (takes_numbers op ≡ true → IsNumber from) × IsRight from a × IsRight from b
    IsRightKind ty (shift left a by) = IsNumber ty × IsRight ty a
    IsRightKind ty (cast a target) = (from : Ty) × (type_of target ≡ Some ty) × (cast_from seen a target ≡ Some from) × IsRight from a

    pub AreRight : Ty → PlainExprs → Type 0
    AreRight ty no_expr = Unit {0}
    AreRight ty (more_expr e rest) = IsRight ty e × AreRight ty rest
