-- Short forms of the parts of the worked programs, whose expressions are of type `Int`. Places are 0 but where one
-- is given, names are empty, and a lone body stands for its program.
use Rattle.std.specs.Prelude.{ℕ, false, List, [], ◌∷◌, Option, Some, None}
use Rattle.std.proofs.Common.{lit≤}
use Rattle.sp_words.specs.declared.kind.BinOp.TheVariants as binary
use Rattle.sp_words.specs.declared.kind.Kind.{Kind}
use Rattle.sp_words.specs.declared.types.Ty.{Ty}
use Rattle.sp_words.specs.declared.types.Ty.TheVariants.{Fix, Bit}
use Rattle.sp_words.specs.Types.{int_type}
use Rattle.sp_tree.specs.Invariant.{ports_of}
use Rattle.sp_tree.specs.Meaning.{Outcome, ended}
use Rattle.sp_tree.specs.PlainExpression.{PlainExpr, PlainExprs, expr, literal, counter, value, get_reg, get_arg, get_sram, get_line, deq, two, no_expr, more_expr}
use Rattle.sp_words.specs.Ports.{PlainInput}
use Rattle.sp_tree.specs.PlainProgram.{PlainMem, PlainProgram}
use Rattle.sp_tree.specs.Shape.{Shape}
use Rattle.sp_tree.specs.PlainStatement.{PlainSpan, range, PlainCounter, PlainStmt, PlainStmtKind, PlainStmts, stmt, no_stmt, more_stmt}

abbrev pub lit : ℕ → PlainExpr
lit word = expr 0 int_type (literal word)

abbrev pub count : ℕ → PlainExpr
count c = expr 0 int_type (counter c)

abbrev pub val : ℕ → PlainExpr
val v = expr 0 int_type (value v)

abbrev pub reg : ℕ → PlainExpr
reg m = expr 0 int_type (get_reg m)

abbrev pub arg : ℕ → PlainExpr
arg m = expr 0 int_type (get_arg m)

abbrev pub exprs : List PlainExpr → PlainExprs
exprs [] = no_expr
exprs (e ∷ rest) = more_expr e (exprs rest)

abbrev pub at : ℕ → List PlainExpr → PlainExpr
at m indices = expr 0 int_type (get_sram m (exprs indices))

abbrev pub in_line : ℕ → PlainExpr → PlainExpr → PlainExpr
in_line m row column = expr 0 int_type (get_line m row column)

abbrev pub oldest : ℕ → PlainExpr
oldest m = expr 0 int_type (deq m)

abbrev pub add : PlainExpr → PlainExpr → PlainExpr
add a b = expr 0 int_type (two binary.Add a b)

abbrev pub sub : PlainExpr → PlainExpr → PlainExpr
sub a b = expr 0 int_type (two binary.Sub a b)

abbrev pub mul : PlainExpr → PlainExpr → PlainExpr
mul a b = expr 0 int_type (two binary.Mul a b)

abbrev pub gt : PlainExpr → PlainExpr → PlainExpr
gt a b = expr 0 Bit (two binary.Gt a b)

abbrev pub ge : PlainExpr → PlainExpr → PlainExpr
ge a b = expr 0 Bit (two binary.Ge a b)

-- the range from a up to b, in one lane, and in so many
abbrev pub between : PlainExpr → PlainExpr → PlainSpan
between a b = range a b 1

abbrev pub in_lanes : PlainExpr → PlainExpr → ℕ → PlainSpan
in_lanes a b par = range a b par

-- counter c from a until b by a step, with so many lanes
abbrev pub from : ℕ → PlainExpr → PlainExpr → ℕ → ℕ → PlainCounter
from c a b step par = record { number = c; from = a; until = b; step = step; par = par }

abbrev pub here : PlainStmtKind → PlainStmt
here kind = stmt 0 kind

abbrev pub at_place : ℕ → PlainStmtKind → PlainStmt
at_place place kind = stmt place kind

abbrev pub stmts : List PlainStmt → PlainStmts
stmts [] = no_stmt
stmts (s ∷ rest) = more_stmt s (stmts rest)

abbrev pub mem_of : Kind → Ty → List ℕ → Option ℕ → PlainMem
mem_of kind ty dims start = record { name = []; kind = kind; ty = ty; dims = dims; start = start; place = 0 }

-- without a sign, of 64 whole bits
abbrev pub long_type : Ty
long_type = Fix (record { signed = false; whole = 64; frac = 0; has_bits = lit≤ tt; in_a_word = lit≤ tt })

abbrev pub program : List PlainMem → PlainStmts → PlainProgram
program mems body = record { ports = record { args = []; outs = []; drams = [] }; mems = mems; vals = []; counters = []; body = body }

abbrev pub input : List ℕ → List (List ℕ) → PlainInput
input args drams = record { args = args; drams = drams }

-- the words of the outputs and of the DRAMs in the end, and the turns that were taken, if it ended
abbrev pub results : Outcome → Option (List ℕ × List (List ℕ) × ℕ)
results (ended outs drams turns shape) = Some (outs, drams, turns)
results _ = None

-- what was run, if it ended
abbrev pub shape_of : Outcome → Option Shape
shape_of (ended outs drams turns shape) = Some shape
shape_of _ = None

-- the memories with these names, in order
abbrev pub name_each : List PlainMem → List (List ℕ) → List PlainMem
name_each (m ∷ mems) (given ∷ names) = record m { name = given } ∷ name_each mems names
name_each mems _ = mems

-- a whole program: with the names of its memories, values and counters, and its ports
abbrev pub named : PlainProgram → (mems vals counters : List (List ℕ)) → PlainProgram
named p mems vals counters = record {
  ports = ports_of (name_each p.mems mems);
  mems = name_each p.mems mems;
  vals = vals;
  counters = counters;
  body = p.body;
}
