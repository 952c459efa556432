-- What single tokens spell. Each relation is between the tokens from a place on, those that are left behind what is
-- spelled, and what that is.
use Rattle.std.specs.Prelude.{◌≡◌, ◌≤◌, ℕ, Bool, true, false, List, ◌∷◌, Some}
use Rattle.sp_words.specs.declared.kind.BinOp.{BinOp}
use Rattle.sp_words.specs.declared.kind.BinOp.TheVariants as op
use Rattle.sp_reader.specs.declared.token.TokenKind.{TokenKind}
use Rattle.sp_reader.specs.declared.token.TokenKind.TheVariants as k
use Rattle.sp_reader.specs.declared.token.Token.{Token}
use Rattle.sp_reader.specs.declared.syntax.expression.SynUn.{SynUn}
use Rattle.sp_reader.specs.declared.syntax.expression.SynUn.TheVariants.{Minus, Bang, Tilde}
use Rattle.sp_reader.specs.Numbers.{whole as whole_part, has_point, width as width_of}
use Rattle.sp_reader.specs.PlainTree.{PlainIdent, PlainDigits}
use Rattle.sp_reader.specs.Names.{ident, digits}
use Rattle.sp_reader.specs.Steps.{Text, is_name, spelling_of}

-- a token of one kind
pub record Takes (kind : TokenKind) (ts us : List Token) : Type 0 where
  pub token : Token
  pub is : ts ≡ token ∷ us
  pub of_kind : token.kind ≡ kind

-- one or more `;`
pub data IsBreak : List Token → List Token → Type 0 where
  one : {ts us : List Token} → Takes k.Semicolon ts us → IsBreak ts us
  another : {ts us vs : List Token} → Takes k.Semicolon ts us → IsBreak us vs → IsBreak ts vs

-- `;` that may be left out
pub data MayBreak : List Token → List Token → Type 0 where
  none : {ts : List Token} → MayBreak ts ts
  some : {ts us : List Token} → IsBreak ts us → MayBreak ts us

module _ (source : Text) where
  pub record IsName (ts us : List Token) (i : PlainIdent) : Type 0 where
    pub token : Token
    pub is : ts ≡ token ∷ us
    pub named : is_name token.kind ≡ true
    pub spells : i ≡ ident source (token ∷ us)

  -- a number, whose sign stands at `at`
  pub record IsNumber (at : ℕ) (negative : Bool) (ts us : List Token) (d : PlainDigits) : Type 0 where
    pub takes : Takes k.Number ts us
    pub whole : ℕ
    pub part : whole_part (spelling_of source takes.token) ≡ Some whole
    pub spells : d ≡ digits at negative (spelling_of source takes.token) whole

  -- a number without a point, within bounds
  pub record IsWhole (least most : ℕ) (ts us : List Token) (n : ℕ) : Type 0 where
    pub takes : Takes k.Number ts us
    pub no_point : has_point (spelling_of source takes.token) ≡ false
    pub spells : whole_part (spelling_of source takes.token) ≡ Some n
    pub low : least ≤ n
    pub high : n ≤ most

  -- a dimension, a depth, a step or a number of lanes
  abbrev pub IsCount : List Token → List Token → ℕ → Type 0
  IsCount = IsWhole 1 2147483647

  pub record IsWidth (ts us : List Token) (n : ℕ) : Type 0 where
    pub takes : Takes k.Width ts us
    pub spells : n ≡ width_of (spelling_of source takes.token)

-- ---- operators

-- an operator between operands, by its level: those of a lower one bind tighter
pub data IsOperator : (level : ℕ) → TokenKind → BinOp → Type 0 where
  times : IsOperator 1 k.Star op.Mul
  divided : IsOperator 1 k.Slash op.Div
  remainder : IsOperator 1 k.Percent op.Rem
  plus : IsOperator 2 k.Plus op.Add
  less : IsOperator 2 k.Minus op.Sub
  less_than : IsOperator 3 k.Less op.Lt
  at_most : IsOperator 3 k.LessEqual op.Le
  above : IsOperator 3 k.Greater op.Gt
  at_least : IsOperator 3 k.GreaterEqual op.Ge
  equal : IsOperator 4 k.EqualEqual op.Eq
  unequal : IsOperator 4 k.BangEqual op.Ne
  both : IsOperator 5 k.And op.And
  both_twice : IsOperator 5 k.AndAnd op.And
  either_one : IsOperator 6 k.Caret op.Xor
  either : IsOperator 7 k.Or op.Or
  either_twice : IsOperator 7 k.OrOr op.Or

-- an operator before an operand
pub data IsSign : TokenKind → SynUn → Type 0 where
  minus : IsSign k.Minus Minus
  bang : IsSign k.Bang Bang
  tilde : IsSign k.Tilde Tilde

-- the sign of a shift, to the left or to the right
pub data IsShift : TokenKind → Bool → Type 0 where
  to_left : IsShift k.ShiftLeft true
  to_right : IsShift k.ShiftRight false

-- an operator that combines
pub data Combines : TokenKind → BinOp → Type 0 where
  sum : Combines k.Plus op.Add
  product : Combines k.Star op.Mul
  all : Combines k.And op.And
  all_twice : Combines k.AndAnd op.And
  some : Combines k.Or op.Or
  some_twice : Combines k.OrOr op.Or
  parity : Combines k.Caret op.Xor
