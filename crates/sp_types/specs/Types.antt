-- Types as they are written, and the types that expressions have by themselves.
use Rattle.std.specs.Prelude.{◌≡◌, ℕ, ◌+◌, ◌&&◌, ◌==◌, nat_le, Bool, true, false, not, if◌then◌else◌, List, Option, Some, None, is_none}
use Rattle.sp_words.specs.declared.kind.BinOp.{BinOp}
use Rattle.sp_words.specs.declared.kind.BinOp.TheVariants as binary
use Rattle.sp_words.specs.declared.types.FixTy.{FixTy}
use Rattle.sp_words.specs.declared.types.Ty.{Ty}
use Rattle.sp_words.specs.declared.types.Ty.TheVariants.{Fix, Bit}
use Rattle.sp_words.specs.Types.{int_type}
use Rattle.sp_reader.specs.declared.syntax.expression.SynTy.{SynTy}
use Rattle.sp_reader.specs.declared.syntax.expression.SynTy.TheVariants as written
use Rattle.sp_reader.specs.declared.syntax.expression.SynUn.{SynUn}
use Rattle.sp_reader.specs.declared.syntax.expression.SynUn.TheVariants.{Minus, Bang, Tilde}
use Rattle.sp_reader.specs.PlainTree.{PlainExpr, PlainExprKind, PlainExprs, expr, number, truth, name, deq, access, mux, min, max, one, two, shift, cast, no_expr, more_expr}
use Rattle.sp_types.specs.declared.own.Own.{Own}
use Rattle.sp_types.specs.declared.own.Own.TheVariants.{Nothing, Known, Unknown}
pub use Rattle.sp_types.specs.Fixed.{fixed}
use Rattle.sp_types.specs.Visible.{PlainSymbol, memory, value, counter, Visible, symbol_of}

abbrev pub is_same_flag : Bool → Bool → Bool
is_same_flag true b = b
is_same_flag false b = not b

-- whether two types are one
abbrev pub is_type : Ty → Ty → Bool
is_type Bit Bit = true
is_type (Fix a) (Fix b) = is_same_flag a.signed b.signed && (a.whole == b.whole && a.frac == b.frac)
is_type _ _ = false

-- the type that is written, where it is one
unfoldable pub type_of : SynTy → Option Ty
type_of (written.Int at) = Some int_type
type_of (written.Bit at) = Some Bit
type_of (written.FixPt at signed whole frac) = fixed signed whole frac

abbrev pub type_place : SynTy → ℕ
type_place (written.Int at) = at
type_place (written.Bit at) = at
type_place (written.FixPt at signed whole frac) = at

-- a type as that of an expression
abbrev pub own_type : Option Ty → Own
own_type (Some ty) = Known ty
own_type None = Unknown

-- the type of a name's word: that of the memory's elements, that of the value, or `Int` of a counter
abbrev pub symbol_type : Option PlainSymbol → Option Ty
symbol_type (Some (memory kind ty dims)) = ty
symbol_type (Some (value ty)) = ty
symbol_type (Some counter) = Some int_type
symbol_type None = None

-- the first of two types that isn't none
abbrev pub either : Own → Own → Own
either Nothing b = b
either (Known ty) b = Known ty
either Unknown b = Unknown

abbrev pub is_comparison : BinOp → Bool
is_comparison binary.Lt = true
is_comparison binary.Le = true
is_comparison binary.Gt = true
is_comparison binary.Ge = true
is_comparison binary.Eq = true
is_comparison binary.Ne = true
is_comparison _ = false

-- whether an operator's operands are numbers, which bits are not
abbrev pub takes_numbers : BinOp → Bool
takes_numbers binary.And = false
takes_numbers binary.Or = false
takes_numbers binary.Xor = false
takes_numbers binary.Eq = false
takes_numbers binary.Ne = false
takes_numbers _ = true

-- the type of an expression by itself
abbrev mutual
  pub own : Visible → PlainExpr → Own
  own seen (expr place kind) = kind_own seen kind

  pub kind_own : Visible → PlainExprKind → Own
  kind_own seen (number d) = Nothing
  kind_own seen (truth b) = Known Bit
  kind_own seen (name i v) = own_type (symbol_type (symbol_of seen i.text))
  kind_own seen (deq i) = own_type (symbol_type (symbol_of seen i.text))
  kind_own seen (access i indices) = own_type (symbol_type (symbol_of seen i.text))
  kind_own seen (mux c a b) = either (own seen a) (own seen b)
  kind_own seen (min a b) = either (own seen a) (own seen b)
  kind_own seen (max a b) = either (own seen a) (own seen b)
  kind_own seen (one Minus a) = own seen a
  kind_own seen (one Bang a) = Known Bit
  kind_own seen (one Tilde a) = own seen a
  kind_own seen (two op a b) = if is_comparison op then Known Bit else either (own seen a) (own seen b)
  kind_own seen (shift left a by) = own seen a
  kind_own seen (cast a ty) = own_type (type_of ty)

-- the type at which an expression is checked that has no other: its own, or `Int` where it has none
abbrev pub own_or_int : Own → Option Ty
own_or_int Nothing = Some int_type
own_or_int (Known ty) = Some ty
own_or_int Unknown = None

-- and at which the operands of a comparison are
abbrev pub compared_at : Visible → PlainExpr → PlainExpr → Option Ty
compared_at seen a b = own_or_int (either (own seen a) (own seen b))
