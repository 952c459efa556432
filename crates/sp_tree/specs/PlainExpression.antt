-- Expressions as plain values: without where they lie in memory.
use Rattle.std.specs.Prelude.{ℕ, Bool}
use Rattle.sp_words.specs.declared.kind.BinOp.{BinOp}
use Rattle.sp_words.specs.declared.kind.UnOp.{UnOp}
use Rattle.sp_words.specs.declared.types.Ty.{Ty}

mutual
  -- an expression: the place at which it begins in the text, its type, and what it is
  pub data PlainExpr : Type 0 where
    expr : (place : ℕ) → Ty → PlainExprKind → PlainExpr

  -- memories, values and counters by their numbers, operands in the order in which they are evaluated
  pub data PlainExprKind : Type 0 where
    literal : (word : ℕ) → PlainExprKind
    counter : ℕ → PlainExprKind
    value : ℕ → PlainExprKind
    get_reg : ℕ → PlainExprKind
    get_arg : ℕ → PlainExprKind
    get_sram : ℕ → (indices : PlainExprs) → PlainExprKind
    get_line : ℕ → (row column : PlainExpr) → PlainExprKind
    deq : ℕ → PlainExprKind
    one : UnOp → PlainExpr → PlainExprKind
    two : BinOp → PlainExpr → PlainExpr → PlainExprKind
    shift : (left : Bool) → PlainExpr → (by : ℕ) → PlainExprKind
    mux : (chosen first second : PlainExpr) → PlainExprKind
    cast : PlainExpr → PlainExprKind

  pub data PlainExprs : Type 0 where
    no_expr : PlainExprs
    more_expr : PlainExpr → PlainExprs → PlainExprs

-- the type of an expression
abbrev pub type_of : PlainExpr → Ty
type_of (expr place ty kind) = ty
