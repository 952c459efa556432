-- What stands in an expression, and in a statement that is no controller and no transfer.
use Rattle.std.specs.Prelude.{ℕ, ◌+◌, ◌==◌, Bool, true, false, ◌||◌, List, [], ◌∷◌, ◌++◌, Option, Some, None}
use Rattle.std.specs.List.{list_any}
use Rattle.sp_tree.specs.PlainExpression.{PlainExpr, PlainExprKind, PlainExprs, expr, literal, counter, value, get_reg, get_arg, get_sram, get_line, deq, one, two, shift, mux, cast, no_expr, more_expr}
use Rattle.sp_tree.specs.PlainStatement.{PlainSpan, single, range, PlainCounter, PlainStmtKind, declare, name, set_reg, set_out, set_sram, enq}

-- how many expressions and how many operations; the memories that are read, written, put into and taken from; and
-- whether an SRAM or a line buffer is read. An operation is a read, write, enq, deq, operator, shift, mux or cast.
pub record Tally : Type 0 where
  pub nodes : ℕ
  pub operations : ℕ
  pub reads : List ℕ
  pub writes : List ℕ
  pub puts : List ℕ
  pub takes : List ℕ
  pub arrays : Bool

abbrev pub nothing : Tally
nothing = record { nodes = 0; operations = 0; reads = []; writes = []; puts = []; takes = []; arrays = false }

infixl 20 ◌&◌
-- both together
abbrev pub ◌&◌ : Tally → Tally → Tally
a & b = record { nodes = a.nodes + b.nodes; operations = a.operations + b.operations; reads = a.reads ++ b.reads; writes = a.writes ++ b.writes; puts = a.puts ++ b.puts; takes = a.takes ++ b.takes; arrays = a.arrays || b.arrays }

-- the memories that are changed, and those that are used in any way
abbrev pub changes_of : Tally → List ℕ
changes_of t = t.writes ++ t.puts ++ t.takes

abbrev pub uses_of : Tally → List ℕ
uses_of t = t.reads ++ changes_of t

abbrev pub is_among : ℕ → List ℕ → Bool
is_among m ms = list_any (λ k. k == m) ms

-- an operation on no memory, and one that reads, writes, puts into or takes from a memory
abbrev pub an_operation : Tally
an_operation = record nothing { operations = 1 }

abbrev pub a_read : Bool → ℕ → Tally
a_read array m = record nothing { operations = 1; reads = m ∷ []; arrays = array }

abbrev pub a_write : ℕ → Tally
a_write m = record nothing { operations = 1; writes = m ∷ [] }

abbrev pub a_put : ℕ → Tally
a_put m = record nothing { operations = 1; puts = m ∷ [] }

abbrev pub a_take : ℕ → Tally
a_take m = record nothing { operations = 1; takes = m ∷ [] }

abbrev mutual
  pub tally : PlainExpr → Tally
  tally (expr place ty kind) = record nothing { nodes = 1 } & kind_tally kind

  pub kind_tally : PlainExprKind → Tally
  kind_tally (literal w) = nothing
  kind_tally (counter c) = nothing
  kind_tally (value v) = nothing
  kind_tally (get_reg m) = a_read false m
  kind_tally (get_arg m) = a_read false m
  kind_tally (get_sram m indices) = tallies indices & a_read true m
  kind_tally (get_line m row column) = tally row & tally column & a_read true m
  kind_tally (deq m) = a_take m
  kind_tally (one op a) = tally a & an_operation
  kind_tally (two op a b) = tally a & tally b & an_operation
  kind_tally (shift left a by) = tally a & an_operation
  kind_tally (mux c a b) = tally c & tally a & tally b & an_operation
  kind_tally (cast a) = tally a & an_operation

  pub tallies : PlainExprs → Tally
  tallies no_expr = nothing
  tallies (more_expr e rest) = tally e & tallies rest

abbrev pub span_tally : PlainSpan → Tally
span_tally (single e) = tally e
span_tally (range a b par) = tally a & tally b

-- of all spans of a slice
abbrev pub slice_tally : List PlainSpan → Tally
slice_tally [] = nothing
slice_tally (s ∷ spans) = span_tally s & slice_tally spans

-- of each bound of the counters, in order
abbrev pub bound_tallies : List PlainCounter → List Tally
bound_tallies [] = []
bound_tallies (c ∷ counters) = tally c.from ∷ tally c.until ∷ bound_tallies counters

-- a statement that is no controller and no transfer; a declaration has nothing to do
abbrev pub primitive : PlainStmtKind → Option Tally
primitive (declare m) = Some nothing
primitive (name v e) = Some (tally e)
primitive (set_reg m e) = Some (tally e & a_write m)
primitive (set_out m e) = Some (tally e & a_write m)
primitive (set_sram m indices e) = Some (tallies indices & tally e & a_write m)
primitive (enq m e) = Some (tally e & a_put m)
primitive _ = None
