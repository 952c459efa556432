-- Lists of operations of the core of a program: of expressions, of runs of statements and of combinations.
use Rattle.std.proofs.Common.{ℕ, suc, ◌+◌, Bool, true, false, cond, List, [], ◌∷◌, ◌++◌, length, Option, None, Some, refl}
use Rattle.sp_words.specs.declared.types.Ty.{Ty}
use Rattle.sp_words.specs.declared.types.Ty.TheVariants.{Bit}
use Rattle.sp_tree.specs.declared.statement.Comb.{Comb}
use Rattle.sp_tree.specs.Expressions.{mem}
use Rattle.sp_tree.specs.PlainExpression.{PlainExpr, PlainExprKind, PlainExprs, expr, literal, counter, value, get_reg, get_arg, get_sram, get_line, deq, one, two, shift, mux, cast, no_expr, more_expr}
use Rattle.sp_tree.specs.PlainProgram.{PlainMem}
use Rattle.sp_tree.specs.PlainStatement as tree
use Rattle.sp_tree.specs.PlainStatement.{PlainStmtKind, PlainStmts, stmt, declare, name, set_reg, set_out, set_sram, enq, no_stmt, more_stmt}
use Rattle.sp_core.specs.declared.operation.OpKind.TheVariants as kind
use Rattle.sp_core.specs.PlainCore.{PlainOp}
use Rattle.sp_core.specs.Sequential.{has_reset}
use Rattle.sp_sugar.specs.Combination.{operator_of, element_indices, is_last_element, element_counters, element_ops}
use Rattle.sp_sugar.specs.Early.{is_early, after, into_register, from_register, counters_of, spans_from, part_ops, slice_ops}
use Rattle.sp_sugar.specs.Numbers.{mem_number}
use Rattle.sp_sugar.specs.Operations.{Code, Codes, computes, accesses, literal_op, read_op, write_op, under, source_code, code, code_of, codes}
use Rattle.sp_sugar.specs.Runs.{Run, with_ops, next_code, with_computed, with_named, with_word, with_stmt, inner_run}
use Rattle.sp_sugar.specs.Stages.{Combines, nothing, folds, reduces, reduces_elements, combining}
use Rattle.sp_sugar.specs.Values.{Source, at_place, in_register, constant, count, Sources, no_sources}
use Rattle.sp_lane_groups.specs.LiveStores.{IsPlainKind, ArePlain}
use Rattle.sp_lane_groups.specs.PlainNodes.{AreCountersPlain, AreSpansPlain}

pub both : (xs ys : List PlainOp) → ArePlain xs → ArePlain ys → ArePlain (xs ++ ys)
both [] ys h k = k
both (x ∷ xs) ys h k = (h.0, both xs ys h.1 k)

pub chosen_plain : (b : Bool) (xs ys : List PlainOp) → ArePlain xs → ArePlain ys → ArePlain (cond b xs ys)
chosen_plain true xs ys h k = h
chosen_plain false xs ys h k = k

source_plain : (source : Source) (at : ℕ) (ty : Ty) → ArePlain (source_code at ty source).ops
source_plain (at_place k) at ty = tt
source_plain (in_register r) at ty = (tt, tt)
source_plain (constant w) at ty = (tt, tt)
source_plain (count c) at ty = (refl, tt)

module _ (mems : List PlainMem) where
  module _ (sources : Sources) where
    mutual
      unfolding code code_of codes

      pub code_plain : (e : PlainExpr) (at : ℕ) → ArePlain (code mems sources at e).ops
      code_plain (expr place ty k) at = kind_plain k at ty

      kind_plain : (k : PlainExprKind) (at : ℕ) (ty : Ty) → ArePlain (code_of mems sources at ty k).ops
      kind_plain (literal w) at ty = (tt, tt)
      kind_plain (counter c) at ty = (refl, tt)
      kind_plain (value v) at ty = source_plain (sources v) at ty
      kind_plain (get_reg m) at ty = (tt, tt)
      kind_plain (get_arg m) at ty = (tt, tt)
      kind_plain (get_sram m indices) at ty = both (codes mems sources at indices).ops _ (codes_plain indices at) (tt, tt)
      kind_plain (get_line m row column) at ty =
          let r : Code = code mems sources at row in let c : Code = code mems sources (at + length r.ops) column in
          both (r.ops ++ c.ops) _ (both r.ops c.ops (code_plain row at) (code_plain column (at + length r.ops))) (tt, tt)
      kind_plain (deq m) at ty = (tt, tt)
      kind_plain (one op a) at ty = both (code mems sources at a).ops _ (code_plain a at) (tt, tt)
      kind_plain (two op a b) at ty =
          let x : Code = code mems sources at a in let y : Code = code mems sources (at + length x.ops) b in
          both (x.ops ++ y.ops) _ (both x.ops y.ops (code_plain a at) (code_plain b (at + length x.ops))) (tt, tt)
      kind_plain (shift left a by) at ty = both (code mems sources at a).ops _ (code_plain a at) (tt, tt)
      kind_plain (mux c a b) at ty =
          let z : Code = code mems sources at c in let x : Code = code mems sources (at + length z.ops) a in let y : Code = code mems sources (at + length z.ops + length x.ops) b in
          both (z.ops ++ x.ops ++ y.ops) _ (both (z.ops ++ x.ops) y.ops (both z.ops x.ops (code_plain c at) (code_plain a (at + length z.ops))) (code_plain b (at + length z.ops + length x.ops))) (tt, tt)
      kind_plain (cast a) at ty = both (code mems sources at a).ops _ (code_plain a at) (tt, tt)

      pub codes_plain : (es : PlainExprs) (at : ℕ) → ArePlain (codes mems sources at es).ops
      codes_plain no_expr at = tt
      codes_plain (more_expr e es) at =
          let x : Code = code mems sources at e in
          both x.ops (codes mems sources (at + length x.ops) es).ops (code_plain e at) (codes_plain es (at + length x.ops))

    pub into_plain : (at r : ℕ) (e : PlainExpr) → ArePlain (into_register mems sources at r e)
    into_plain at r e = both (code mems sources at e).ops _ (code_plain e at) (tt, tt)

    pub from_plain : (crosses : PlainExpr → Bool) (r : ℕ) (e : PlainExpr) → ArePlain (from_register mems sources crosses r e)
    from_plain crosses r e = chosen_plain (crosses e) _ (code mems sources 0 e).ops (tt, tt) (code_plain e 0)

    pub counters_plain : (r : ℕ) (loops : List tree.PlainCounter) → AreCountersPlain (counters_of mems sources r loops)
    counters_plain r [] = tt
    counters_plain r (c ∷ loops) =
        (from_plain is_early r c.from, from_plain is_early (after is_early r c.from) c.until, counters_plain (after is_early (after is_early r c.from) c.until) loops)

    pub spans_plain : (crosses : PlainExpr → Bool) (r : ℕ) (spans : List tree.PlainSpan) → AreSpansPlain (spans_from mems sources crosses r spans)
    spans_plain crosses r [] = tt
    spans_plain crosses r (tree.single e ∷ spans) = (from_plain crosses r e, spans_plain crosses (after crosses r e) spans)
    spans_plain crosses r (tree.range a b par ∷ spans) =
        (from_plain crosses r a, from_plain crosses (after crosses r a) b, spans_plain crosses (after crosses (after crosses r a) b) spans)

    pub slice_plain : (crosses : PlainExpr → Bool) (at r : ℕ) (es : List PlainExpr) → ArePlain (slice_ops mems sources crosses at r es)
    slice_plain crosses at r [] = tt
    slice_plain crosses at r (e ∷ es) =
        let first : List PlainOp = part_ops mems sources crosses at r e in
        both first (slice_ops mems sources crosses (at + length first) (after crosses r e) es) (chosen_plain (crosses e) (into_register mems sources at r e) [] (into_plain at r e) tt)
        (slice_plain crosses (at + length first) (after crosses r e) es)

  -- runs
  pub next_plain : (run : Run) (e : PlainExpr) → ArePlain (next_code mems run e).ops
  next_plain run e = code_plain run.values.here e (length run.ops)

  computed_plain : (run : Run) (v : ℕ) (e : PlainExpr) (register : Option ℕ) → ArePlain run.ops → ArePlain (with_computed mems run v e register).ops
  computed_plain run v e None h = both run.ops (next_code mems run e).ops h (next_plain run e)
  computed_plain run v e (Some r) h = both (run.ops ++ (next_code mems run e).ops) _ (both run.ops (next_code mems run e).ops h (next_plain run e)) (tt, tt)

  named_plain : (run : Run) (v : ℕ) (e : PlainExpr) (register : Option ℕ) → ArePlain run.ops → ArePlain (with_named mems run v e register).ops
  named_plain run v (expr place ty (literal w)) register h = h
  named_plain run v (expr place ty (counter c)) register h = h
  named_plain run v (expr place ty (value u)) register h = h
  named_plain run v (expr place ty x) register h = computed_plain run v (expr place ty x) register h

  word_plain : (run : Run) (e : PlainExpr) (op : ℕ → PlainOp) → ArePlain run.ops → ((w : ℕ) → IsPlainKind (op w).kind) → ArePlain (with_word mems run e op).ops
  word_plain run e op h k =
      let x : Code = next_code mems run e in
      both run.ops (x.ops ++ op x.word ∷ []) h (both x.ops (op x.word ∷ []) (next_plain run e) (k x.word, tt))

  reset_plain : (b : Bool) (run : Run) (ops : List PlainOp) → ArePlain run.ops → ArePlain ops → ArePlain (cond b (with_ops run ops) run).ops
  reset_plain true run ops h k = both run.ops ops h k
  reset_plain false run ops h k = h

  element_plain : (run : Run) (m : ℕ) (xs : PlainExprs) (e : PlainExpr) → ArePlain run.ops → ArePlain (with_stmt mems true None run (set_sram m xs e)).ops
  element_plain run m xs e h =
      let is : Codes = codes mems run.values.here (length run.ops) xs in
      word_plain (with_ops run is.ops) e (λ w. write_op (mem mems m).ty (mem_number mems m) (is.words ++ w ∷ [])) (both run.ops is.ops h (codes_plain run.values.here xs (length run.ops))) (λ w. tt)

  -- a statement of a run
  pub stmt_plain : (inner : Bool) (register : Option ℕ) (run : Run) (k : PlainStmtKind) → ArePlain run.ops → ArePlain (with_stmt mems inner register run k).ops
  stmt_plain true register run (declare m) h = reset_plain (has_reset (mem mems m).kind (mem mems m).start) run (accesses kind.Reset (mem mems m).ty (mem_number mems m) [] ∷ []) h (tt, tt)
  stmt_plain false register run (declare m) h = h
  stmt_plain true register run (name v e) h = named_plain run v e register h
  stmt_plain false register run (name v e) h = named_plain run v e register h
  stmt_plain true register run (set_reg m e) h = word_plain run e (λ w. write_op (mem mems m).ty (mem_number mems m) (w ∷ [])) h (λ w. tt)
  stmt_plain false register run (set_reg m e) h = word_plain run e (λ w. write_op (mem mems m).ty (mem_number mems m) (w ∷ [])) h (λ w. tt)
  stmt_plain true register run (set_out m e) h = word_plain run e (λ w. write_op (mem mems m).ty (mem_number mems m) (w ∷ [])) h (λ w. tt)
  stmt_plain false register run (set_out m e) h = word_plain run e (λ w. write_op (mem mems m).ty (mem_number mems m) (w ∷ [])) h (λ w. tt)
  stmt_plain true register run (set_sram m xs e) h = element_plain run m xs e h
  stmt_plain false register run (set_sram m xs e) h = element_plain run m xs e h
  stmt_plain true register run (enq m e) h = word_plain run e (λ w. accesses kind.Enq (mem mems m).ty (mem_number mems m) (w ∷ [])) h (λ w. tt)
  stmt_plain false register run (enq m e) h = word_plain run e (λ w. accesses kind.Enq (mem mems m).ty (mem_number mems m) (w ∷ [])) h (λ w. tt)
  stmt_plain true register run k h = h
  stmt_plain false register run k h = h

  pub body_plain : (run : Run) (body : PlainStmts) → ArePlain run.ops → ArePlain (inner_run mems run body).ops
  body_plain run no_stmt h = h
  body_plain run (more_stmt (stmt place k) rest) h = body_plain (with_stmt mems true None run k) rest (stmt_plain true None run k h)

  -- combinations
  pub combining_plain : (counters at word : ℕ) (c : Combines) → ArePlain (combining mems counters at word c)
  combining_plain counters at word nothing = tt
  combining_plain counters at word (folds acc comb e) = (tt, (tt, (tt, tt)))
  combining_plain counters at word (reduces acc begun comb e) = (tt, (tt, (tt, (tt, (tt, (tt, (tt, tt)))))))
  combining_plain counters at word (reduces_elements part acc begun comb) = tt

  pub elements_plain : (at word : ℕ) (c : ℕ) (dims : List ℕ) (acc begun : ℕ) (ty : Ty) (comb : Comb) → ArePlain (element_ops mems at word c dims acc begun ty comb)
  elements_plain at word c dims acc begun ty comb =
      let indices : Codes = codes mems no_sources (at + 1) (element_indices c dims) in
      let read : ℕ = at + 1 + length dims in
      let again : Codes = codes mems no_sources (read + 3) (element_indices c dims) in
      let last : Code = code mems no_sources (read + 4 + length dims) (is_last_element c dims) in
      let a : List PlainOp = read_op Bit begun [] ∷ indices.ops in
      let b : List PlainOp = under at (read_op ty acc indices.words) ∷ computes (kind.Two (operator_of comb)) ty (read ∷ word ∷ []) ∷ computes kind.Mux ty (at ∷ (read + 1) ∷ word ∷ []) ∷ again.ops in
      let d : List PlainOp = write_op ty acc (again.words ++ (read + 2) ∷ []) ∷ last.ops in
      let e : List PlainOp = literal_op Bit 1 ∷ under last.word (write_op Bit begun ((read + 4 + length dims + length last.ops) ∷ [])) ∷ [] in
      both (a ++ b ++ d) e
      (both (a ++ b) d (both a b (tt, codes_plain no_sources (element_indices c dims) (at + 1)) (tt, (tt, (tt, codes_plain no_sources (element_indices c dims) (read + 3)))))
      (tt, code_plain no_sources (is_last_element c dims) (read + 4 + length dims)))
      (tt, (tt, tt))

pub loop_plain : (c : ℕ) (dims : List ℕ) → AreCountersPlain (element_counters c dims)
loop_plain c [] = tt
loop_plain c (d ∷ dims) = ((tt, tt), (tt, tt), loop_plain (suc c) dims)
