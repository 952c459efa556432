-- Short forms of the parts of the worked trees. `y` is an output of type `Int`, and a body stands for the program that
-- begins with `val y = ArgOut[Int]; Accel {`.
use Rattle.std.specs.Prelude.{ℕ, Bool, true, false, List, [], ◌∷◌, codes, Option, Some, None}
use Rattle.sp_words.specs.declared.kind.BinOp.{BinOp}
use Rattle.sp_reader.specs.declared.syntax.expression.SynTy.{SynTy}
use Rattle.sp_reader.specs.declared.syntax.expression.SynTy.TheVariants.{Int, Bit, FixPt}
use Rattle.sp_reader.specs.declared.syntax.statement.SynPar.{SynPar}
use Rattle.sp_reader.specs.PlainTree.{PlainIdent, PlainDigits, PlainLit, number_lit, PlainExpr, PlainExprs, expr, number, truth, name, deq, access, mux, two, one, cast, row}
use Rattle.sp_reader.specs.PlainStatement.{PlainSpan, single, range, PlainCounter, PlainComb, PlainHead, PlainStmt, PlainStmts, stmt, reg, sram, fifo, line_buffer, bind, set, set_at, enq, load, store, gather, foreach, reduce, mem_reduce, fsm, branch, no_stmt, body, PlainDecl, PlainDeclKind, arg_in, arg_out, dram, PlainSyntax}

abbrev pub ident : ℕ → List ℕ → PlainIdent
ident place text = record { place = place; text = text }

abbrev pub int : SynTy
int = Int 0

abbrev pub bit : SynTy
bit = Bit 0

abbrev pub fixed : (place : ℕ) → Bool → (whole frac : ℕ) → SynTy
fixed place signed whole frac = FixPt place signed whole frac

-- numbers, with the digits after a point
abbrev pub num : ℕ → ℕ → PlainExpr
num place n = expr place (number (record { place = place; negative = false; whole = n; digits = [] }))

abbrev pub minus : ℕ → ℕ → PlainExpr
minus place n = expr place (number (record { place = place; negative = true; whole = n; digits = [] }))

abbrev pub point : ℕ → ℕ → List ℕ → PlainExpr
point place n ds = expr place (number (record { place = place; negative = false; whole = n; digits = ds }))

abbrev pub var : ℕ → List ℕ → PlainExpr
var place text = expr place (name (ident place text) false)

abbrev pub yes : ℕ → PlainExpr
yes place = expr place (truth true)

abbrev pub bin : BinOp → ℕ → PlainExpr → PlainExpr → PlainExpr
bin op place a b = expr place (two op a b)

abbrev pub at : ℕ → List ℕ → List PlainExpr → PlainExpr
at place text indices = expr place (access (ident place text) (row indices))

abbrev pub take : ℕ → List ℕ → PlainExpr
take place text = expr place (deq (ident place text))

-- declarations and statements
abbrev pub outer : ℕ → List ℕ → PlainDeclKind → PlainDecl
outer place text kind = record { place = place; name = ident place text; kind = kind }

abbrev pub sram_of : ℕ → List ℕ → List ℕ → PlainStmt
sram_of place text dims = stmt place (sram (ident place text) int dims)

abbrev pub reg_of : ℕ → List ℕ → SynTy → PlainStmt
reg_of place text ty = stmt place (reg (ident place text) ty None)

abbrev pub put_y : ℕ → PlainExpr → PlainStmt
put_y place e = stmt place (set (ident place (codes "y")) e)

abbrev pub up_to : PlainExpr → Option SynPar → PlainCounter
up_to e par = record { from = None; until = e; step = 1; par = par }

abbrev pub lanes : ℕ → ℕ → Option SynPar
lanes place n = Some (record { at = place; lanes = n })

abbrev pub loop_over : List PlainCounter → List PlainIdent → PlainHead
loop_over counters binds = record { style = None; counters = counters; binds = binds }

abbrev pub plain_comb : BinOp → PlainComb
plain_comb op = record { place = 900; params = None; operator = op; args = None }

abbrev pub named_comb : BinOp → (a b c d : PlainIdent) → PlainComb
named_comb op a b c d = record { place = 900; params = Some (a, b); operator = op; args = Some (c, d) }

-- programs
abbrev pub program : List PlainDecl → List PlainStmt → PlainSyntax
program decls ss = record { decls = decls; body = ss }

abbrev pub in_accel : List PlainStmt → PlainSyntax
in_accel ss = program (outer 4 (codes "y") (arg_out int) ∷ []) ss
