-- Names, numbers and expressions as plain values: without where they lie in memory.
use Rattle.std.specs.Prelude.{ℕ, Bool, List, [], ◌∷◌, Option}
use Rattle.sp_words.specs.declared.kind.BinOp.{BinOp}
use Rattle.sp_reader.specs.declared.syntax.expression.SynTy.{SynTy}
use Rattle.sp_reader.specs.declared.syntax.expression.SynUn.{SynUn}

pub record PlainIdent : Type 0 where
  pub place : ℕ
  pub text : List ℕ

pub record PlainDigits : Type 0 where
  pub place : ℕ
  pub negative : Bool
  pub whole : ℕ
  pub digits : List ℕ

mutual
  -- an expression: the place at which it begins in the text, and what it is
  pub data PlainExpr : Type 0 where
    expr : (place : ℕ) → PlainExprKind → PlainExpr

  pub data PlainExprKind : Type 0 where
    number : PlainDigits → PlainExprKind
    truth : Bool → PlainExprKind
    name : PlainIdent → (value : Bool) → PlainExprKind
    deq : PlainIdent → PlainExprKind
    access : PlainIdent → (indices : PlainExprs) → PlainExprKind
    mux : (chosen first second : PlainExpr) → PlainExprKind
    min : PlainExpr → PlainExpr → PlainExprKind
    max : PlainExpr → PlainExpr → PlainExprKind
    one : SynUn → PlainExpr → PlainExprKind
    two : BinOp → PlainExpr → PlainExpr → PlainExprKind
    shift : (left : Bool) → PlainExpr → (by : ℕ) → PlainExprKind
    cast : PlainExpr → SynTy → PlainExprKind

  pub data PlainExprs : Type 0 where
    no_expr : PlainExprs
    more_expr : PlainExpr → PlainExprs → PlainExprs

-- where an expression begins
abbrev pub place_of_expr : PlainExpr → ℕ
place_of_expr (expr place kind) = place

-- expressions in a list
abbrev pub row : List PlainExpr → PlainExprs
row [] = no_expr
row (e ∷ rest) = more_expr e (row rest)

-- an initial value
pub data PlainLit : Type 0 where
  number_lit : PlainDigits → Option SynTy → PlainLit
  truth_lit : (place : ℕ) → Bool → PlainLit
