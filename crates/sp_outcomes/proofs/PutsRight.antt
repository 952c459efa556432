-- The stages of a proper stream block put words into FIFOs alone.
use Rattle.std.proofs.Common.{◌≡◌, ℕ, zero, suc, ◌+◌, ◌<◌, Bool, true, false, not, ◌&&◌, List, [], ◌∷◌, Option, Some, None, refl, ◌∙◌, ap, arith, if◌then◌else◌}
use Rattle.std.proofs.lemmas.Bool.{false≢true}
use Rattle.std.specs.Prelude.{length, slice_index_or}
use Rattle.sp_words.specs.declared.kind.Kind.TheVariants.{Fifo}
use Rattle.sp_words.specs.declared.types.Ty.{Ty}
use Rattle.sp_words.specs.Types.{int_type}
use Rattle.sp_tree.specs.declared.statement.Comb.{Comb}
use Rattle.sp_tree.specs.Expressions as expressions
use Rattle.sp_tree.specs.Meaning.{is_dram}
use Rattle.sp_tree.specs.PlainExpression.{PlainExpr, PlainExprKind, PlainExprs, expr, literal, counter, value, get_reg, get_arg, get_sram, get_line, deq, one, two, shift, mux, cast, no_expr, more_expr}
use Rattle.sp_tree.specs.PlainProgram.{PlainMem, PlainProgram, no_mem}
use Rattle.sp_tree.specs.PlainStatement.{PlainCounter, PlainStmtKind, PlainStmts, stmt, declare, name, set_reg, set_out, set_sram, enq, foreach, reduce, no_stmt, more_stmt}
use Rattle.sp_tree.specs.Streams.{StreamStage, is_fifo, are_stages}
use Rattle.sp_tree.specs.Structure.{is_inner}
use Rattle.sp_tree.specs.Typing.{Scope, with_counters, StmtTyped, BodyTyped, after as scope_after}
use Rattle.sp_core.specs.declared.operation.OpKind.TheVariants as kind
use Rattle.sp_core.specs.Declarations.{kind_of}
use Rattle.sp_core.specs.PlainCore as plain
use Rattle.sp_core.specs.PlainCore.{PlainOp, PlainNode, PlainStages, PlainCore, more_stage}
use Rattle.sp_core.specs.Sequential.{has_reset}
use Rattle.sp_sugar.specs.Agreement.{HasMemories}
use Rattle.sp_sugar.specs.Early.{is_early, after as number_after, registers_for, counters_of, bounds_of, bound_stages, into_register}
use Rattle.sp_sugar.specs.Numbers.{mem_number}
use Rattle.sp_sugar.specs.Operations.{accesses, read_op, code, code_of, codes, source_code}
use Rattle.sp_sugar.specs.Runs.{Run, no_run, with_ops, source_or, with_computed, with_reset, with_stmt, inner_run}
use Rattle.sp_sugar.specs.Stages.{nothing, combines, inner_node, stages, node}
use Rattle.sp_sugar.specs.Uses.{no_more}
use Rattle.sp_sugar.specs.Values.{Source, at_place, in_register, constant, count, Sources, stands_for, with_value}
use Rattle.sp_sugar.proofs.MemoryLemmas.{chip_kind}
use Rattle.sp_same.proofs.Values.{each_both}
use Rattle.sp_outcomes.proofs.Empties.{IsPutRight, ArePutsRight, AreBoundsRight, IsNodeRight, AreStagesRight}

-- a FIFO is declared
pub fifo_exists : (ms : List PlainMem) (m : ℕ) → (slice_index_or ms m no_mem).kind ≡ Fifo → m < length ms
fifo_exists [] m e = absurd (false≢true (ap is_fifo e))
fifo_exists (x ∷ ms) zero e = omega arith
fifo_exists (x ∷ ms) (suc m) e = let f = fifo_exists ms m e in omega (arith, f)

module _ (p : PlainProgram) (core : PlainCore) (h : HasMemories p core) where
  abbrev Right : PlainOp → Type 0
  Right op = IsPutRight core op.kind op.mem

  pub fifo_is : (m : ℕ) → (expressions.mem p.mems m).kind ≡ Fifo → kind_of core (mem_number p.mems m) ≡ Fifo
  fifo_is m is = chip_kind p core h m (fifo_exists p.mems m is) (ap (λ k. not (is_dram k)) is) ∙ is

  -- expressions put nothing
  source_right : (at : ℕ) (ty : Ty) (source : Source) → ArePutsRight core (source_code at ty source).ops
  source_right at ty (at_place k) = tt
  source_right at ty (in_register r) = (tt, tt)
  source_right at ty (constant w) = (tt, tt)
  source_right at ty (count c) = (tt, tt)

  module _ (sources : Sources) where
    mutual
      unfolding code code_of codes

      pub code_right : (at : ℕ) (e : PlainExpr) → ArePutsRight core (code p.mems sources at e).ops
      code_right at (expr place ty k) = kind_right at ty k

      kind_right : (at : ℕ) (ty : Ty) (k : PlainExprKind) → ArePutsRight core (code_of p.mems sources at ty k).ops
      kind_right at ty (literal w) = (tt, tt)
      kind_right at ty (counter c) = (tt, tt)
      kind_right at ty (value v) = source_right at ty (sources v)
      kind_right at ty (get_reg m) = (tt, tt)
      kind_right at ty (get_arg m) = (tt, tt)
      kind_right at ty (get_sram m indices) = each_both Right _ _ (codes_right at indices) (tt, tt)
      kind_right at ty (get_line m row column) = each_both Right _ _ (each_both Right _ _ (code_right at row) (code_right _ column)) (tt, tt)
      kind_right at ty (deq m) = (tt, tt)
      kind_right at ty (one op a) = each_both Right _ _ (code_right at a) (tt, tt)
      kind_right at ty (two op a b) = each_both Right _ _ (each_both Right _ _ (code_right at a) (code_right _ b)) (tt, tt)
      kind_right at ty (shift left a by) = each_both Right _ _ (code_right at a) (tt, tt)
      kind_right at ty (mux c a b) = each_both Right _ _ (each_both Right _ _ (each_both Right _ _ (code_right at c) (code_right _ a)) (code_right _ b)) (tt, tt)
      kind_right at ty (cast a) = each_both Right _ _ (code_right at a) (tt, tt)

      codes_right : (at : ℕ) (es : PlainExprs) → ArePutsRight core (codes p.mems sources at es).ops
      codes_right at no_expr = tt
      codes_right at (more_expr e rest) = each_both Right _ _ (code_right at e) (codes_right _ rest)

    bound_right : (b : Bool) (r : ℕ) (e : PlainExpr) → ArePutsRight core (if b then read_op int_type r [] ∷ [] else (code p.mems sources 0 e).ops)
    bound_right true r e = (tt, tt)
    bound_right false r e = code_right 0 e

    counters_right : (r : ℕ) (loops : List PlainCounter) → AreBoundsRight core (counters_of p.mems sources r loops)
    counters_right r [] = tt
    counters_right r (c ∷ loops) = ((bound_right (is_early c.from) r c.from, bound_right (is_early c.until) _ c.until), counters_right (number_after is_early (number_after is_early r c.from) c.until) loops)

    -- the stages of early bounds
    bounds_right : (r : ℕ) (es : List PlainExpr) (rest : PlainStages) → AreStagesRight core rest → AreStagesRight core (bound_stages p.mems sources r es rest)
    bounds_right r [] rest right = right
    bounds_right r (e ∷ es) rest right = chosen (is_early e) (bounds_right (suc r) es rest right) (bounds_right r es rest right)
      where
        chosen : (b : Bool) → AreStagesRight core (bound_stages p.mems sources (suc r) es rest) → AreStagesRight core (bound_stages p.mems sources r es rest)
            → AreStagesRight core (if b then more_stage 0 0 false (plain.inner [] [] (into_register p.mems sources 0 r e) None) (bound_stages p.mems sources (suc r) es rest) else bound_stages p.mems sources r es rest)
        chosen true f g = ((tt, each_both Right _ _ (code_right 0 e) (tt, tt)), f)
        chosen false f g = g

  -- statements of an inner body
  declared_right : (run : Run) (m : ℕ) → ArePutsRight core run.ops → ArePutsRight core (with_reset p.mems run m).ops
  declared_right run m r = go (has_reset (expressions.mem p.mems m).kind (expressions.mem p.mems m).start)
    where
      go : (b : Bool) → ArePutsRight core (if b then with_ops run (accesses kind.Reset (expressions.mem p.mems m).ty (mem_number p.mems m) [] ∷ []) else run).ops
      go true = each_both Right _ _ r (tt, tt)
      go false = r

  named_right : (run : Run) (v : ℕ) (e : PlainExpr) (o : Option Source) → ArePutsRight core run.ops → ArePutsRight core (elim o as (λ _. Run) [ Some s ↦ record run { values = with_value run.values v s (source_or (stands_for run.values.elsewhere e) s) } | None ↦ with_computed p.mems run v e None ]).ops
  named_right run v e (Some s) r = r
  named_right run v e None r = each_both Right _ _ r (code_right run.values.here _ e)

  stmt_right : (k : PlainStmtKind) (scope : Scope) → StmtTyped p scope k → (run : Run) → ArePutsRight core run.ops → ArePutsRight core (with_stmt p.mems true None run k).ops
  stmt_right (declare m) scope typed run r = declared_right run m r
  stmt_right (name v e) scope typed run r = named_right run v e (stands_for run.values.here e) r
  stmt_right (set_reg m e) scope typed run r = each_both Right _ _ r (each_both Right _ _ (code_right run.values.here _ e) (tt, tt))
  stmt_right (set_out m e) scope typed run r = each_both Right _ _ r (each_both Right _ _ (code_right run.values.here _ e) (tt, tt))
  stmt_right (set_sram m indices e) scope typed run r = each_both Right _ _ (each_both Right _ _ r (codes_right run.values.here _ indices)) (each_both Right _ _ (code_right run.values.here _ e) (tt, tt))
  stmt_right (enq m e) scope typed run r = each_both Right _ _ r (each_both Right _ _ (code_right run.values.here _ e) (fifo_is m typed.0.is_kind, tt))
  stmt_right k scope typed run r = r

  body_right : (body : PlainStmts) (scope : Scope) → BodyTyped p scope body → (run : Run) → ArePutsRight core run.ops → ArePutsRight core (inner_run p.mems run body).ops
  body_right no_stmt scope typed run r = r
  body_right (more_stmt (stmt place k) rest) scope typed run r = body_right rest (scope_after scope k) typed.1 (with_stmt p.mems true None run k) (stmt_right k scope typed.0 run r)

  -- loops with inner bodies
  module _ (count : ℕ) (sources : Sources) (loops : List plain.PlainCounter) (bounds : AreBoundsRight core loops) (body : PlainStmts) (scope : Scope) (typed : BodyTyped p scope body) where
    plain_right : IsNodeRight core (inner_node p.mems count sources loops body nothing)
    plain_right = (bounds, body_right body scope typed (no_run sources) tt)

    combined_right : (fold : Bool) (acc begun : ℕ) (comb : Comb) (e : PlainExpr) → IsNodeRight core (inner_node p.mems count sources loops body (combines p.mems fold acc begun comb e))
    combined_right true acc begun comb e =
        let run : Run = inner_run p.mems (no_run sources) body in
        (bounds, each_both Right _ _ (each_both Right _ _ (body_right body scope typed (no_run sources) tt) (code_right run.values.here _ e)) (tt, (tt, (tt, tt))))
    combined_right false acc begun comb e =
        let run : Run = inner_run p.mems (no_run sources) body in
        (bounds, each_both Right _ _ (each_both Right _ _ (body_right body scope typed (no_run sources) tt) (code_right run.values.here _ e)) (tt, (tt, (tt, (tt, (tt, (tt, (tt, tt))))))))

  -- a stage of a proper block is one
  is_loop : (b : Bool) (s : StreamStage) (rest : Bool) → (elim (if b then Some s else None) as (λ _. Bool) [ Some s ↦ rest | None ↦ false && rest ]) ≡ true → (b ≡ true) × (rest ≡ true)
  is_loop true s rest e = (refl, e)
  is_loop false s rest e = absurd (false≢true e)

  if_inner : (b : Bool) (x y : PlainNode) → b ≡ true → IsNodeRight core x → IsNodeRight core (if b then x else y)
  if_inner true x y e f = f
  if_inner false x y e f = absurd (false≢true e)

  module _ (number : ℕ) where
    pub proper_right : (body : PlainStmts) (scope : Scope) → BodyTyped p scope body → are_stages body ≡ true → (sources : Sources) (n : ℕ) → AreStagesRight core (stages p.mems number (no_run sources) n body no_more nothing)
    unfolding stages node
    proper_right no_stmt scope typed e sources n = tt
    proper_right (more_stmt (stmt place (declare m)) rest) scope typed e sources n = proper_right rest _ typed.1 e sources _
    proper_right (more_stmt (stmt place (foreach style loops body)) rest) scope typed e sources n =
        let both = is_loop (is_inner body) _ (are_stages rest) e in
        let cs : List plain.PlainCounter = counters_of p.mems sources n loops in
        bounds_right sources n (bounds_of loops) _ (
          if_inner (is_inner body) _ _ both.0 (plain_right number sources cs (counters_right sources n loops) body (with_counters scope loops) typed.0.2),
          proper_right rest scope typed.1 both.1 sources _,
        )
    proper_right (more_stmt (stmt place (reduce style fold acc loops body e2 comb)) rest) scope typed e sources n =
        let both = is_loop (is_inner body) _ (are_stages rest) e in
        let cs : List plain.PlainCounter = counters_of p.mems sources n loops in
        bounds_right sources n (bounds_of loops) _ (
          if_inner (is_inner body) _ _ both.0
              (combined_right number sources cs (counters_right sources n loops) body (with_counters scope loops) typed.0.2 fold acc (n + length (registers_for is_early (bounds_of loops))) comb e2),
          proper_right rest scope typed.1 both.1 sources _,
        )
    proper_right (more_stmt (stmt place k) rest) scope typed e sources n = absurd (false≢true e)
