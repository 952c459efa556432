-- Statements and programs as plain values.
use Rattle.std.specs.Prelude.{ℕ, List, [], ◌∷◌, Option}
use Rattle.sp_words.specs.declared.kind.BinOp.{BinOp}
use Rattle.sp_words.specs.declared.kind.Style.{Style}
use Rattle.sp_reader.specs.declared.syntax.expression.SynTy.{SynTy}
use Rattle.sp_reader.specs.declared.syntax.statement.SynPar.{SynPar}
use Rattle.sp_reader.specs.PlainTree.{PlainIdent, PlainLit, PlainExpr, PlainExprs}

-- what a transfer takes of one dimension
pub data PlainSpan : Type 0 where
  single : PlainExpr → PlainSpan
  range : (from until : PlainExpr) → Option SynPar → PlainSpan

pub record PlainCounter : Type 0 where
  pub from : Option PlainExpr
  pub until : PlainExpr
  pub step : ℕ
  pub par : Option SynPar

pub record PlainComb : Type 0 where
  pub place : ℕ
  pub params : Option (PlainIdent × PlainIdent)
  pub operator : BinOp
  pub args : Option (PlainIdent × PlainIdent)

-- how a loop begins
pub record PlainHead : Type 0 where
  pub style : Option Style
  pub counters : List PlainCounter
  pub binds : List PlainIdent

mutual
  -- a statement: the place of its first token, and what it is
  pub data PlainStmt : Type 0 where
    stmt : (place : ℕ) → PlainStmtKind → PlainStmt

  -- the parts in the order of the text
  pub data PlainStmtKind : Type 0 where
    reg : PlainIdent → SynTy → Option PlainLit → PlainStmtKind
    sram : PlainIdent → SynTy → (dims : List ℕ) → PlainStmtKind
    fifo : PlainIdent → SynTy → (depth : ℕ) → PlainStmtKind
    line_buffer : PlainIdent → SynTy → (rows columns : ℕ) → PlainStmtKind
    bind : PlainIdent → PlainExpr → PlainStmtKind
    set : PlainIdent → PlainExpr → PlainStmtKind
    set_at : PlainIdent → (indices : List PlainExpr) → PlainExpr → PlainStmtKind
    enq : PlainIdent → PlainExpr → PlainStmtKind
    load : (onto from : PlainIdent) → List PlainSpan → PlainStmtKind
    store : (onto : PlainIdent) → List PlainSpan → (from : PlainIdent) → PlainStmtKind
    gather : (onto from places : PlainIdent) → (count : PlainExpr) → PlainStmtKind
    scatter : (onto places : PlainIdent) → (count : PlainExpr) → (from : PlainIdent) → PlainStmtKind
    block : Style → PlainStmts → PlainStmtKind
    foreach : PlainHead → PlainStmts → PlainStmtKind
    reduce : PlainHead → PlainStmts → (acc : PlainIdent) → (value : PlainExpr) → PlainComb → PlainStmtKind
    fold : PlainHead → PlainStmts → (acc : PlainIdent) → (value : PlainExpr) → PlainComb → PlainStmtKind
    mem_reduce : PlainHead → PlainStmts → (acc : PlainIdent) → (value : PlainExpr) → PlainComb → PlainStmtKind
    fsm : (start : PlainExpr) → (tested : PlainIdent) → (test : PlainExpr) → (state : PlainIdent) → PlainStmts → (last : PlainIdent) → (next : PlainExpr) → PlainStmtKind
    branch : (test : PlainExpr) → (first second : PlainStmts) → PlainStmtKind

  pub data PlainStmts : Type 0 where
    no_stmt : PlainStmts
    more_stmt : PlainStmt → PlainStmts → PlainStmts

-- statements in a list
abbrev pub body : List PlainStmt → PlainStmts
body [] = no_stmt
body (s ∷ rest) = more_stmt s (body rest)

pub data PlainDeclKind : Type 0 where
  arg_in : SynTy → PlainDeclKind
  arg_out : SynTy → PlainDeclKind
  dram : SynTy → (dims : List ℕ) → PlainDeclKind

pub record PlainDecl : Type 0 where
  pub place : ℕ
  pub name : PlainIdent
  pub kind : PlainDeclKind

pub record PlainSyntax : Type 0 where
  pub decls : List PlainDecl
  pub body : List PlainStmt
