-- Statements as plain values.
use Rattle.std.specs.Prelude.{ℕ, Bool, List}
use Rattle.sp_words.specs.declared.kind.Style.{Style}
use Rattle.sp_tree.specs.declared.statement.Comb.{Comb}
use Rattle.sp_tree.specs.PlainExpression.{PlainExpr, PlainExprs}

-- what a slice takes of one dimension: one index, or those from the first up to the second, in so many lanes
pub data PlainSpan : Type 0 where
  single : PlainExpr → PlainSpan
  range : (from until : PlainExpr) → (par : ℕ) → PlainSpan

pub record PlainCounter : Type 0 where
  pub number : ℕ
  pub from : PlainExpr
  pub until : PlainExpr
  pub step : ℕ
  pub par : ℕ

mutual
  -- a statement: the place at which it begins in the text, and what it is
  pub data PlainStmt : Type 0 where
    stmt : (place : ℕ) → PlainStmtKind → PlainStmt

  pub data PlainStmtKind : Type 0 where
    declare : ℕ → PlainStmtKind
    name : (value : ℕ) → PlainExpr → PlainStmtKind
    set_reg : ℕ → PlainExpr → PlainStmtKind
    set_out : ℕ → PlainExpr → PlainStmtKind
    set_sram : ℕ → (indices : PlainExprs) → PlainExpr → PlainStmtKind
    enq : ℕ → PlainExpr → PlainStmtKind
    load_sram : (sram dram : ℕ) → List PlainSpan → PlainStmtKind
    load_line : (line dram : ℕ) → List PlainSpan → PlainStmtKind
    store : (dram : ℕ) → List PlainSpan → (sram : ℕ) → PlainStmtKind
    gather : (sram dram places : ℕ) → (count : PlainExpr) → PlainStmtKind
    scatter : (dram places : ℕ) → (count : PlainExpr) → (sram : ℕ) → PlainStmtKind
    block : Style → PlainStmts → PlainStmtKind
    foreach : Style → List PlainCounter → PlainStmts → PlainStmtKind
    reduce : Style → (fold : Bool) → (acc : ℕ) → List PlainCounter → PlainStmts → (word : PlainExpr) → Comb → PlainStmtKind
    mem_reduce : Style → (acc : ℕ) → List PlainCounter → PlainStmts → (part : ℕ) → Comb → PlainStmtKind
    fsm : (start : PlainExpr) → (tested : ℕ) → (test : PlainExpr) → (state : ℕ) → PlainStmts → (last : ℕ) → (next : PlainExpr) → PlainStmtKind
    branch : (test : PlainExpr) → (first second : PlainStmts) → PlainStmtKind

  pub data PlainStmts : Type 0 where
    no_stmt : PlainStmts
    more_stmt : PlainStmt → PlainStmts → PlainStmts
