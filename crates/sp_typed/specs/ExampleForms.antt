-- Short forms of the parts of the worked trees. Places are 0 but where one tells something.
use Rattle.std.specs.Prelude.{ℕ, true, false, List, [], ◌∷◌, Option, Some, None}
use Rattle.std.proofs.Common.{lit≤}
use Rattle.sp_words.specs.declared.kind.BinOp.TheVariants as binary
use Rattle.sp_words.specs.declared.types.Ty.{Ty}
use Rattle.sp_words.specs.declared.types.Ty.TheVariants.{Fix}
use Rattle.sp_reader.specs.declared.syntax.statement.SynPar.{SynPar}
use Rattle.sp_reader.specs.PlainTree.{PlainIdent, PlainDigits, PlainExpr, number_lit}
use Rattle.sp_reader.specs.PlainStatement.{PlainSpan, range, PlainCounter, PlainHead, PlainStmt, PlainStmtKind, stmt, reg, fifo, bind, set, set_at, load, store, foreach, body, PlainDecl, arg_in, arg_out, dram}
use Rattle.sp_types.specs.ExampleForms as written

abbrev pub named : List ℕ → PlainIdent
named text = written.ident 0 text

abbrev pub var : List ℕ → PlainExpr
var text = written.var 0 text

abbrev pub num : ℕ → PlainExpr
num n = written.num 0 n

abbrev pub add : PlainExpr → PlainExpr → PlainExpr
add a b = written.bin binary.Add 0 a b

abbrev pub sub : PlainExpr → PlainExpr → PlainExpr
sub a b = written.bin binary.Sub 0 a b

abbrev pub mul : PlainExpr → PlainExpr → PlainExpr
mul a b = written.bin binary.Mul 0 a b

abbrev pub at : List ℕ → List PlainExpr → PlainExpr
at text indices = written.at 0 text indices

-- ---- declarations

abbrev pub arg : List ℕ → PlainDecl
arg text = written.outer 0 text (arg_in written.int)

abbrev pub out : List ℕ → PlainDecl
out text = written.outer 0 text (arg_out written.int)

abbrev pub dram_of : List ℕ → List ℕ → PlainDecl
dram_of text dims = written.outer 0 text (dram written.int dims)

abbrev pub whole : ℕ → PlainDigits
whole n = record { place = 0; negative = false; whole = n; digits = [] }

-- a register without a start, and one that begins with a number
abbrev pub reg_of : List ℕ → PlainStmt
reg_of text = written.reg_of 0 text written.int

abbrev pub reg_from : List ℕ → ℕ → PlainStmt
reg_from text n = stmt 0 (reg (named text) written.int (Some (number_lit (whole n) None)))

abbrev pub sram_of : List ℕ → List ℕ → PlainStmt
sram_of text dims = written.sram_of 0 text dims

abbrev pub fifo_of : List ℕ → ℕ → PlainStmt
fifo_of text depth = stmt 0 (fifo (named text) written.int depth)

-- ---- statements

abbrev pub here : PlainStmtKind → PlainStmt
here kind = stmt 0 kind

abbrev pub put : List ℕ → PlainExpr → PlainStmt
put text e = here (set (named text) e)

abbrev pub put_at : List ℕ → List PlainExpr → PlainExpr → PlainStmt
put_at text indices e = here (set_at (named text) indices e)

abbrev pub val : List ℕ → PlainExpr → PlainStmt
val text e = here (bind (named text) e)

abbrev pub between : PlainExpr → PlainExpr → PlainSpan
between a b = range a b None

abbrev pub in_lanes : PlainExpr → PlainExpr → ℕ → PlainSpan
in_lanes a b n = range a b (written.lanes 0 n)

abbrev pub loaded : List ℕ → List ℕ → List PlainSpan → PlainStmt
loaded chip outer spans = here (load (named chip) (named outer) spans)

abbrev pub stored : List ℕ → List PlainSpan → List ℕ → PlainStmt
stored outer spans chip = here (store (named outer) spans (named chip))

-- a counter from 0 up to a number by a step, with its lanes
abbrev pub by : ℕ → ℕ → Option SynPar → PlainCounter
by n step par = record { from = None; until = num n; step = step; par = par }

-- a loop of one counter
abbrev pub over : PlainCounter → List ℕ → PlainHead
over c text = written.loop_over (c ∷ []) (named text ∷ [])

abbrev pub loop : PlainCounter → List ℕ → List PlainStmt → PlainStmt
loop c text ss = here (foreach (over c text) (body ss))

-- ---- types

-- `FixPt[TRUE,_8,_2]`
abbrev pub quarters : Ty
quarters = Fix (record { signed = true; whole = 8; frac = 2; has_bits = lit≤ tt; in_a_word = lit≤ tt })

-- `FixPt[FALSE,_4,_1]`
abbrev pub halves : Ty
halves = Fix (record { signed = false; whole = 4; frac = 1; has_bits = lit≤ tt; in_a_word = lit≤ tt })
