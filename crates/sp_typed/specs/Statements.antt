-- The typed statements that the statements of a tree without refusals spell.
use Rattle.std.specs.Prelude.{ℕ, ◌+◌, Bool, true, false, List, [], ◌∷◌, map, length, Option, Some, None}
use Rattle.sp_words.specs.declared.kind.BinOp.{BinOp}
use Rattle.sp_words.specs.declared.kind.BinOp.TheVariants as binary
use Rattle.sp_words.specs.declared.kind.Kind.TheVariants.{ArgOut}
use Rattle.sp_words.specs.declared.kind.Style.{Style}
use Rattle.sp_words.specs.declared.kind.Style.TheVariants.{Pipe}
use Rattle.sp_words.specs.declared.types.Ty.{Ty}
use Rattle.sp_words.specs.declared.types.Ty.TheVariants.{Bit}
use Rattle.sp_words.specs.Types.{int_type}
use Rattle.sp_reader.specs.declared.syntax.statement.SynPar.{SynPar}
use Rattle.sp_reader.specs.PlainTree.{PlainIdent, PlainExpr, place_of_expr, row}
use Rattle.sp_reader.specs.PlainStatement.{PlainSpan, single, range, PlainCounter, PlainStmtKind, PlainStmts, stmt, reg, sram, fifo, line_buffer, bind, set, set_at, enq, load, store, gather, scatter, block, foreach, reduce, fold, mem_reduce, fsm, branch, no_stmt, more_stmt}
use Rattle.sp_tree.specs.declared.statement.Comb.{Comb}
use Rattle.sp_tree.specs.declared.statement.Comb.TheVariants as combiner
use Rattle.sp_tree.specs.PlainExpression.{literal, expr as program_expr, PlainExpr as ProgramExpr}
use Rattle.sp_tree.specs.PlainStatement as program
use Rattle.sp_types.specs.Statements.{bare_name}
use Rattle.sp_types.specs.Visible.{PlainSymbol, memory, value}
use Rattle.sp_typed.specs.Declarations.{after, after_all, past_body, past_turn, in_loop, vals_declared}
use Rattle.sp_typed.specs.Expressions.{type_by_itself, number_of, symbol_at, word_type, is_line, typed, all_typed}
use Rattle.sp_typed.specs.Named.{Here, give, past}

-- ---- lanes, spans and counters

-- one lane where none are written
abbrev pub lanes : Option SynPar → ℕ
lanes (Some par) = par.lanes
lanes None = 1

abbrev pub span_typed : Here → PlainSpan → program.PlainSpan
span_typed here (single e) = program.single (typed here int_type e)
span_typed here (range from until par) = program.range (typed here int_type from) (typed here int_type until) (lanes par)

abbrev pub spans_typed : Here → List PlainSpan → List program.PlainSpan
spans_typed here spans = map (span_typed here) spans

-- a counter goes from 0 where no other start is written
abbrev pub from_typed : Here → ℕ → Option PlainExpr → ProgramExpr
from_typed here place (Some e) = typed here int_type e
from_typed here place None = program_expr place int_type (literal 0)

abbrev pub counter_typed : Here → ℕ → PlainCounter → program.PlainCounter
counter_typed here n c = record { number = n; from = from_typed here (place_of_expr c.until) c.from; until = typed here int_type c.until; step = c.step; par = lanes c.par }

-- counters are numbered one after the other; their bounds stand outside of the loop
abbrev pub counters_typed : Here → ℕ → List PlainCounter → List program.PlainCounter
counters_typed here n [] = []
counters_typed here n (c ∷ rest) = counter_typed here n c ∷ counters_typed here (n + 1) rest

-- a loop without a style is a pipe
abbrev pub loop_style : Option Style → Style
loop_style (Some style) = style
loop_style None = Pipe

-- ---- combiners and accumulators

abbrev pub comb_typed : BinOp → Comb
comb_typed binary.Mul = combiner.Mul
comb_typed binary.And = combiner.And
comb_typed binary.Or = combiner.Or
comb_typed binary.Xor = combiner.Xor
comb_typed binary.Min = combiner.Min
comb_typed binary.Max = combiner.Max
comb_typed _ = combiner.Add

abbrev pub part_if : Here → Option PlainIdent → ℕ
part_if here (Some i) = number_of here i
part_if here None = 0

-- the memory that the value of a MemReduce names, by what is visible at the end of its body
abbrev pub part_number : Here → PlainExpr → ℕ
part_number here v = part_if here (bare_name v)

-- ---- writes and loads

abbrev pub is_output : Option PlainSymbol → Bool
is_output (Some (memory ArgOut ty dims)) = true
is_output _ = false

-- a write of an output or of a register
abbrev pub write : Bool → ℕ → ProgramExpr → program.PlainStmtKind
write true n e = program.set_out n e
write false n e = program.set_reg n e

-- a load of a line buffer or of an SRAM
abbrev pub load_typed : Bool → (chip dram : ℕ) → List program.PlainSpan → program.PlainStmtKind
load_typed true chip dram spans = program.load_line chip dram spans
load_typed false chip dram spans = program.load_sram chip dram spans

-- ---- the state of an FSM

-- where a binder stands for a state of a type, as the value of a number
abbrev pub with_state : Here → PlainIdent → Ty → ℕ → Here
with_state here i ty n = give here i.text (value (Some ty)) n

-- in the body of an FSM, which comes after the first two of its binders
abbrev pub in_fsm : Here → PlainIdent → Ty → Here
in_fsm here now ty = past (with_state here now ty (here.vals + 1)) 0 2 0

-- ---- statements

abbrev mutual
  -- each statement under what is visible after those before it
  pub body_typed : Here → PlainStmts → program.PlainStmts
  body_typed here no_stmt = program.no_stmt
  body_typed here (more_stmt (stmt place kind) rest) =
      program.more_stmt (program.stmt place (stmt_typed here kind)) (body_typed (after here kind) rest)

  pub stmt_typed : Here → PlainStmtKind → program.PlainStmtKind
  stmt_typed here (reg i ty start) = program.declare here.mems
  stmt_typed here (sram i ty dims) = program.declare here.mems
  stmt_typed here (fifo i ty depth) = program.declare here.mems
  stmt_typed here (line_buffer i ty rows columns) = program.declare here.mems
  stmt_typed here (bind i e) = program.name here.vals (typed here (type_by_itself here e) e)
  stmt_typed here (set i e) = write (is_output (symbol_at here i)) (number_of here i) (typed here (word_type here i) e)
  stmt_typed here (set_at i indices e) =
      program.set_sram (number_of here i) (all_typed here int_type (row indices)) (typed here (word_type here i) e)
  stmt_typed here (enq i e) = program.enq (number_of here i) (typed here (word_type here i) e)
  stmt_typed here (load onto from spans) =
      load_typed (is_line (symbol_at here onto)) (number_of here onto) (number_of here from) (spans_typed here spans)
  stmt_typed here (store onto spans from) = program.store (number_of here onto) (spans_typed here spans) (number_of here from)
  stmt_typed here (gather onto from places count) =
      program.gather (number_of here onto) (number_of here from) (number_of here places) (typed here int_type count)
  stmt_typed here (scatter onto places count from) =
      program.scatter (number_of here onto) (number_of here places) (typed here int_type count) (number_of here from)
  stmt_typed here (block style ss) = program.block style (body_typed here ss)
  stmt_typed here (foreach h ss) =
      program.foreach (loop_style h.style) (counters_typed here here.counters h.counters) (body_typed (in_loop here h.binds) ss)
  -- the value of a Reduce or Fold is an expression at the end of the body
  stmt_typed here (reduce h ss acc v c) =
      program.reduce (loop_style h.style) false (number_of here acc) (counters_typed here here.counters h.counters)
      (body_typed (in_loop here h.binds) ss) (typed (after_all (in_loop here h.binds) ss) (word_type here acc) v) (comb_typed c.operator)
  stmt_typed here (fold h ss acc v c) =
      program.reduce (loop_style h.style) true (number_of here acc) (counters_typed here here.counters h.counters)
      (body_typed (in_loop here h.binds) ss) (typed (after_all (in_loop here h.binds) ss) (word_type here acc) v) (comb_typed c.operator)
  stmt_typed here (mem_reduce h ss acc v c) =
      program.mem_reduce (loop_style h.style) (number_of here acc) (counters_typed here here.counters h.counters)
      (body_typed (in_loop here h.binds) ss) (part_number (after_all (in_loop here h.binds) ss) v) (comb_typed c.operator)
  -- the three binders of an FSM are three values, the last of them after those of the body
  stmt_typed here (fsm start tested test now ss last next) =
      program.fsm (typed here (type_by_itself here start) start)
      here.vals (typed (with_state here tested (type_by_itself here start) here.vals) Bit test)
      (here.vals + 1) (body_typed (in_fsm here now (type_by_itself here start)) ss)
      (here.vals + (2 + length (vals_declared ss)))
      (typed (with_state (past_turn here ss) last (type_by_itself here start) (here.vals + (2 + length (vals_declared ss)))) (type_by_itself here start) next)
  stmt_typed here (branch test first second) =
      program.branch (typed here Bit test) (body_typed here first) (body_typed (past_body here first) second)
