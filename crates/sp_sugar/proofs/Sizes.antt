-- How large a part of a core is, by the nodes of its part of the program.
use Rattle.std.proofs.Common.{◌≡◌, ℕ, suc, ◌+◌, ◌*◌, ◌≤◌, Bool, true, false, List, [], ◌∷◌, ◌++◌, Option, Some, None, refl, sym, ◌∙◌, subst, arith, length-append, ◌==◌, if◌then◌else◌}
use Rattle.std.proofs.lemmas.List.Sums.{sum_by-cons}
use Rattle.std.specs.Prelude.{length, map, sum_by}
use Rattle.sp_words.specs.declared.kind.Style.{Style}
use Rattle.sp_words.specs.declared.kind.Style.TheVariants.{Pipe}
use Rattle.sp_words.specs.declared.types.Ty.{Ty}
use Rattle.sp_words.specs.declared.kind.BinOp.TheVariants as binary
use Rattle.sp_words.specs.declared.types.Ty.TheVariants.{Bit}
use Rattle.sp_words.specs.Types.{int_type}
use Rattle.sp_tree.specs.declared.statement.Comb.{Comb}
use Rattle.sp_tree.specs.Counts.{nodes_in, kind_nodes}
use Rattle.sp_tree.specs.Expressions.{mem, dims}
use Rattle.sp_tree.specs.PlainExpression.{PlainExpr, PlainExprKind, PlainExprs, expr, literal, counter, value, get_reg, get_arg, get_sram, get_line, deq, one, two, shift, mux, cast, no_expr, more_expr, type_of}
use Rattle.sp_tree.specs.PlainProgram.{PlainMem}
use Rattle.sp_tree.specs.PlainStatement.{PlainSpan, single, range, PlainCounter, PlainStmtKind, PlainStmts, stmt, declare, name, set_reg, set_out, set_sram, enq, load_sram, load_line, store, gather, scatter, block, foreach, reduce, mem_reduce, fsm, branch, no_stmt, more_stmt}
use Rattle.sp_tree.specs.Structure.{lanes_of, own_mems, is_inner, slice_lanes, outside}
use Rattle.sp_tree.specs.Tallies.{Tally, tally, kind_tally, tallies, slice_tally, bound_tallies}
use Rattle.sp_core.specs.declared.operation.OpKind.TheVariants as kind
use Rattle.sp_core.specs.Numbering.{node_count, node_count_in, counters_size, spans_size, operation_count, operation_count_in}
use Rattle.sp_core.specs.PlainCore as core
use Rattle.sp_core.specs.PlainCore.{PlainOp, PlainNode, PlainStages, more_stage, no_stage}
use Rattle.sp_core.specs.Sequential.{has_reset}
use Rattle.sp_sugar.specs.Combination.{operator_of, element_counters, element_indices, is_last_at, conjunction, is_last_element, element_value, element_ops, element_loop}
use Rattle.sp_sugar.specs.Early.{bounds_of, parts_of, is_early, is_early_slice, is_early_part, registers_for, after, into_register, from_register, counters_of, spans_from, bound_stages, part_ops, slice_ops, slice_stage, stage_of, early_stages}
use Rattle.sp_sugar.specs.Operations.{Code, Codes, computes, under, literal_op, accesses, alone, read_op, write_op, source_code, code, code_of, codes, word_list}
use Rattle.sp_sugar.specs.Registers.{ending_of, beside, inside, registers_in}
use Rattle.sp_sugar.specs.Runs.{Run, no_run, with_ops, next_code, with_computed, with_named, with_reset, with_word, with_stmt, inner_run}
use Rattle.sp_sugar.specs.Stages.{run_stage, first_of, Combines, nothing, folds, reduces, reduces_elements, combines, combining, combination, combination_stage, inner_node, last_stages, load_node, store_node, style_of, outer_node, body_node, stages, node}
use Rattle.sp_sugar.specs.Uses.{is_bare, Ending, no_more, in_last_run, in_combination}
use Rattle.sp_sugar.specs.Values.{Source, at_place, in_register, constant, count, Sources, no_sources, with_state}
use Rattle.sp_sugar.specs.Numbers.{mem_number}
use Rattle.sp_sugar.proofs.NumberLemmas.{either}

abbrev pub nodes_of : PlainExpr → ℕ
nodes_of e = (tally e).nodes

-- a controller or a transfer
abbrev IsStageKind : PlainStmtKind → Type 0
IsStageKind (declare m) = ⊥
IsStageKind (name v e) = ⊥
IsStageKind (set_reg m e) = ⊥
IsStageKind (set_out m e) = ⊥
IsStageKind (set_sram m is e) = ⊥
IsStageKind (enq m e) = ⊥
IsStageKind _ = Unit {0}

-- one operation more
one_more : (xs : List PlainOp) (x : PlainOp) → length (xs ++ x ∷ []) ≡ suc (length xs)
one_more xs x = omega (arith, length-append xs (x ∷ []))

source_size : (source : Source) (at : ℕ) (ty : Ty) → length (source_code at ty source).ops ≤ 1
source_size (at_place k) at ty = omega arith
source_size (in_register r) at ty = omega arith
source_size (constant w) at ty = omega arith
source_size (count c) at ty = omega arith

module _ (mems : List PlainMem) (sources : Sources) where
  mutual
    unfolding code code_of codes

    -- an expression has no more operations than nodes
    pub code_size : (e : PlainExpr) (at : ℕ) → length (code mems sources at e).ops ≤ nodes_of e
    code_size (expr place ty k) at = kind_size k at ty

    kind_size : (k : PlainExprKind) (at : ℕ) (ty : Ty) → length (code_of mems sources at ty k).ops ≤ 1 + (kind_tally k).nodes
    kind_size (literal w) at ty = omega arith
    kind_size (counter c) at ty = omega arith
    kind_size (value v) at ty = omega (arith, source_size (sources v) at ty)
    kind_size (get_reg m) at ty = omega arith
    kind_size (get_arg m) at ty = omega arith
    kind_size (get_sram m is) at ty = let c : Codes = codes mems sources at is in omega (arith, codes_size is at, length-append c.ops (read_op ty (mem_number mems m) c.words ∷ []))
    kind_size (get_line m row column) at ty =
        let r : Code = code mems sources at row in let c : Code = code mems sources (at + length r.ops) column in
        omega (arith, code_size row at, code_size column (at + length r.ops), length-append r.ops c.ops, length-append (r.ops ++ c.ops) (read_op ty (mem_number mems m) (r.word ∷ c.word ∷ []) ∷ []))
    kind_size (deq m) at ty = omega arith
    kind_size (one op a) at ty = let x : Code = code mems sources at a in omega (arith, code_size a at, one_more x.ops (computes (kind.One op) ty (x.word ∷ [])))
    kind_size (two op a b) at ty =
        let x : Code = code mems sources at a in let y : Code = code mems sources (at + length x.ops) b in
        omega (arith, code_size a at, code_size b (at + length x.ops), length-append x.ops y.ops, one_more (x.ops ++ y.ops) (computes (kind.Two op) (type_of a) (x.word ∷ y.word ∷ [])))
    kind_size (shift left a by) at ty = let x : Code = code mems sources at a in omega (arith, code_size a at, one_more x.ops (computes (kind.Shift left by) ty (x.word ∷ [])))
    kind_size (mux c a b) at ty =
        let z : Code = code mems sources at c in let x : Code = code mems sources (at + length z.ops) a in let y : Code = code mems sources (at + length z.ops + length x.ops) b in
        omega (arith, code_size c at, code_size a (at + length z.ops), code_size b (at + length z.ops + length x.ops), length-append z.ops x.ops, length-append (z.ops ++ x.ops) y.ops, one_more (z.ops ++ x.ops ++ y.ops) (computes kind.Mux ty (z.word ∷ x.word ∷ y.word ∷ [])))
    kind_size (cast a) at ty = let x : Code = code mems sources at a in omega (arith, code_size a at, one_more x.ops (computes (kind.Cast ty) (type_of a) (x.word ∷ [])))

    pub codes_size : (es : PlainExprs) (at : ℕ) → length (codes mems sources at es).ops ≤ (tallies es).nodes
    codes_size no_expr at = omega arith
    codes_size (more_expr e es) at =
        let x : Code = code mems sources at e in let xs : Codes = codes mems sources (at + length x.ops) es in
        omega (arith, code_size e at, codes_size es (at + length x.ops), length-append x.ops xs.ops)

abbrev pub stages_size : PlainStages → ℕ
stages_size xs = node_count_in xs + operation_count_in xs

abbrev pub node_size : PlainNode → ℕ
node_size x = node_count x + operation_count x

if_ops : (b : Bool) (xs ys : List PlainOp) (k : ℕ) → length xs ≤ k → length ys ≤ k → length (if b then xs else ys) ≤ k
if_ops true xs ys k e f = e
if_ops false xs ys k e f = f

if_stages : (b : Bool) (xs ys : PlainStages) (k : ℕ) → stages_size xs ≤ k → stages_size ys ≤ k → stages_size (if b then xs else ys) ≤ k
if_stages true xs ys k e f = e
if_stages false xs ys k e f = f

if_node : (b : Bool) (x y : PlainNode) (k : ℕ) → node_size x ≤ k → node_size y ≤ k → node_size (if b then x else y) ≤ k
if_node true x y k e f = e
if_node false x y k e f = f

run_size : (ops : List PlainOp) (rest : PlainStages) → stages_size (run_stage ops rest) ≤ 1 + length ops + stages_size rest
run_size [] rest = omega arith
run_size (op ∷ ops) rest = omega arith

-- the nodes of expressions
abbrev pub all_nodes : List PlainExpr → ℕ
all_nodes [] = 0
all_nodes (e ∷ es) = nodes_of e + all_nodes es

pub some_nodes : (e : PlainExpr) → 1 ≤ nodes_of e
some_nodes (expr place ty k) = omega arith

pub bound_nodes : (loops : List PlainCounter) → all_nodes (bounds_of loops) ≡ sum_by (λ (t : Tally). t.nodes) (bound_tallies loops)
bound_nodes [] = refl
bound_nodes (c ∷ loops) =
    omega (arith, bound_nodes loops, sum_by-cons (λ (t : Tally). t.nodes) (tally c.from) (tally c.until ∷ bound_tallies loops), sum_by-cons (λ (t : Tally). t.nodes) (tally c.until) (bound_tallies loops))

pub part_nodes : (spans : List PlainSpan) → all_nodes (parts_of spans) ≡ (slice_tally spans).nodes
part_nodes [] = refl
part_nodes (single e ∷ spans) = omega (arith, part_nodes spans)
part_nodes (range a b par ∷ spans) = omega (arith, part_nodes spans)

some_bounds : (loops : List PlainCounter) → 1 ≤ length loops → 2 ≤ all_nodes (bounds_of loops)
some_bounds [] h = absurd (omega arith)
some_bounds (c ∷ loops) h = omega (arith, some_nodes c.from, some_nodes c.until)

-- each MemReduce has a counter
abbrev mutual
  pub Looped : PlainStmts → Type 0
  Looped no_stmt = Unit {0}
  Looped (more_stmt (stmt place kind) rest) = IsLooped kind × Looped rest

  pub IsLooped : PlainStmtKind → Type 0
  IsLooped (block style body) = Looped body
  IsLooped (foreach style loops body) = Looped body
  IsLooped (reduce style fold acc loops body e comb) = Looped body
  IsLooped (mem_reduce style acc loops body part comb) = (1 ≤ length loops) × Looped body
  IsLooped (fsm start tested test state body last next) = Looped body
  IsLooped (branch test first second) = Looped first × Looped second
  IsLooped _ = Unit {0}

pub alone_nodes : (t : Tally) → sum_by (λ (t : Tally). t.nodes) (t ∷ []) ≡ t.nodes
alone_nodes t = sum_by-cons (λ (t : Tally). t.nodes) t [] ∙ omega arith

module _ (mems : List PlainMem) (sources : Sources) where
  into_size : (at r : ℕ) (e : PlainExpr) → length (into_register mems sources at r e) ≤ 1 + nodes_of e
  into_size at r e = let x : Code = code mems sources at e in omega (arith, code_size mems sources e at, one_more x.ops (write_op int_type r (x.word ∷ [])))

  from_size : (crosses : PlainExpr → Bool) (r : ℕ) (e : PlainExpr) → length (from_register mems sources crosses r e) ≤ nodes_of e
  from_size crosses r e = if_ops (crosses e) (read_op int_type r [] ∷ []) (word_list mems sources e) (nodes_of e) (omega (arith, some_nodes e)) (code_size mems sources e 0)

  loops_size : (r : ℕ) (loops : List PlainCounter) → counters_size (counters_of mems sources r loops) ≤ all_nodes (bounds_of loops)
  loops_size r [] = omega arith
  loops_size r (c ∷ loops) =
      omega (arith, from_size is_early r c.from, from_size is_early (after is_early r c.from) c.until, loops_size (after is_early (after is_early r c.from) c.until) loops)

  spans_size_le : (crosses : PlainExpr → Bool) (r : ℕ) (spans : List PlainSpan) → spans_size (spans_from mems sources crosses r spans) ≤ all_nodes (parts_of spans)
  spans_size_le crosses r [] = omega arith
  spans_size_le crosses r (single e ∷ spans) = omega (arith, from_size crosses r e, spans_size_le crosses (after crosses r e) spans)
  spans_size_le crosses r (range a b par ∷ spans) =
      omega (arith, from_size crosses r a, from_size crosses (after crosses r a) b, spans_size_le crosses (after crosses (after crosses r a) b) spans)

  -- early stages
  bounds_size : (r : ℕ) (es : List PlainExpr) (rest : PlainStages) → stages_size (bound_stages mems sources r es rest) ≤ 3 * all_nodes es + stages_size rest
  bounds_size r [] rest = omega arith
  bounds_size r (e ∷ es) rest =
      if_stages (is_early e) (stage_of (into_register mems sources 0 r e) (bound_stages mems sources (suc r) es rest)) (bound_stages mems sources r es rest) (3 * all_nodes (e ∷ es) + stages_size rest)
      (omega (arith, into_size 0 r e, some_nodes e, bounds_size (suc r) es rest)) (omega (arith, bounds_size r es rest))

  part_size : (crosses : PlainExpr → Bool) (at r : ℕ) (e : PlainExpr) → length (part_ops mems sources crosses at r e) ≤ 2 * nodes_of e
  part_size crosses at r e = if_ops (crosses e) (into_register mems sources at r e) [] (2 * nodes_of e) (omega (arith, into_size at r e, some_nodes e)) (omega arith)

  slice_ops_size : (crosses : PlainExpr → Bool) (at r : ℕ) (es : List PlainExpr) → length (slice_ops mems sources crosses at r es) ≤ 2 * all_nodes es
  slice_ops_size crosses at r [] = omega arith
  slice_ops_size crosses at r (e ∷ es) =
      let x : List PlainOp = part_ops mems sources crosses at r e in
      omega (arith, part_size crosses at r e, slice_ops_size crosses (at + length x) (after crosses r e) es, length-append x (slice_ops mems sources crosses (at + length x) (after crosses r e) es))

  slice_size : (r : ℕ) (spans : List PlainSpan) (rest : PlainStages) → stages_size (slice_stage mems sources r spans rest) ≤ 1 + 2 * all_nodes (parts_of spans) + stages_size rest
  slice_size r spans rest =
      if_stages (is_early_slice spans) (stage_of (slice_ops mems sources (is_early_part spans) 0 r (parts_of spans)) rest) rest (1 + 2 * all_nodes (parts_of spans) + stages_size rest)
      (omega (arith, slice_ops_size (is_early_part spans) 0 r (parts_of spans))) (omega arith)

  abbrev outside_nodes : PlainStmtKind → ℕ
  outside_nodes kind = sum_by (λ (t : Tally). t.nodes) (outside kind)

  early_size : (r : ℕ) (kind : PlainStmtKind) (rest : PlainStages) → stages_size (early_stages mems sources r kind rest) ≤ 1 + 3 * outside_nodes kind + stages_size rest
  early_size r (load_sram sram dram spans) rest = omega (arith, slice_size r spans rest, part_nodes spans, alone_nodes (slice_tally spans))
  early_size r (load_line line dram spans) rest = omega (arith, slice_size r spans rest, part_nodes spans, alone_nodes (slice_tally spans))
  early_size r (store dram spans sram) rest = omega (arith, slice_size r spans rest, part_nodes spans, alone_nodes (slice_tally spans))
  early_size r (gather sram dram places e) rest = omega (arith, bounds_size r (e ∷ []) rest, alone_nodes (tally e))
  early_size r (scatter dram places e sram) rest = omega (arith, bounds_size r (e ∷ []) rest, alone_nodes (tally e))
  early_size r (foreach style loops body) rest = omega (arith, bounds_size r (bounds_of loops) rest, bound_nodes loops)
  early_size r (reduce style fold acc loops body e comb) rest = omega (arith, bounds_size r (bounds_of loops) rest, bound_nodes loops)
  early_size r (mem_reduce style acc loops body part comb) rest = omega (arith, bounds_size r (bounds_of loops) rest, bound_nodes loops)
  early_size r _ rest = omega arith

module _ (mems : List PlainMem) where
  -- a statement of a run adds at most one operation beside those of its expressions
  reset_size : (run : Run) (m : ℕ) → length (with_reset mems run m).ops ≤ length run.ops + 1
  reset_size run m = either (has_reset (mem mems m).kind (mem mems m).start)
      (λ e. subst (λ b. length (if b then with_ops run (accesses kind.Reset (mem mems m).ty (mem_number mems m) [] ∷ []) else run).ops ≤ length run.ops + 1) (sym e) (omega (arith, one_more run.ops (accesses kind.Reset (mem mems m).ty (mem_number mems m) []))))
      (λ e. subst (λ b. length (if b then with_ops run (accesses kind.Reset (mem mems m).ty (mem_number mems m) [] ∷ []) else run).ops ≤ length run.ops + 1) (sym e) (omega arith))

  computed_size : (run : Run) (v : ℕ) (e : PlainExpr) (register : Option ℕ) → length (with_computed mems run v e register).ops ≤ length run.ops + nodes_of e + 1
  computed_size run v e None = let x : Code = next_code mems run e in omega (arith, code_size mems run.values.here e (length run.ops), length-append run.ops x.ops)
  computed_size run v e (Some r) = let x : Code = next_code mems run e in
      omega (arith, code_size mems run.values.here e (length run.ops), length-append run.ops x.ops, one_more (run.ops ++ x.ops) (write_op (type_of e) r (x.word ∷ [])))

  named_size : (run : Run) (v : ℕ) (e : PlainExpr) (register : Option ℕ) → length (with_named mems run v e register).ops ≤ length run.ops + nodes_of e + 1
  named_size run v (expr place ty (literal w)) register = omega arith
  named_size run v (expr place ty (counter c)) register = omega arith
  named_size run v (expr place ty (value u)) register = omega arith
  named_size run v (expr place ty k) register = computed_size run v (expr place ty k) register

  word_size : (run : Run) (e : PlainExpr) (op : ℕ → PlainOp) → length (with_word mems run e op).ops ≤ length run.ops + nodes_of e + 1
  word_size run e op = let x : Code = next_code mems run e in
      omega (arith, code_size mems run.values.here e (length run.ops), length-append run.ops (x.ops ++ op x.word ∷ []), one_more x.ops (op x.word))

  stmt_size : (inner : Bool) (register : Option ℕ) (run : Run) (place : ℕ) (kind : PlainStmtKind) (rest : PlainStmts) → length (with_stmt mems inner register run kind).ops + nodes_in rest ≤ length run.ops + nodes_in (more_stmt (stmt place kind) rest)
  stmt_size true register run place (declare m) rest = omega (arith, reset_size run m)
  stmt_size false register run place (declare m) rest = omega arith
  stmt_size true register run place (name v e) rest = omega (arith, named_size run v e register)
  stmt_size false register run place (name v e) rest = omega (arith, named_size run v e register)
  stmt_size true register run place (set_reg m e) rest = omega (arith, word_size run e (λ w. write_op (mem mems m).ty (mem_number mems m) (w ∷ [])))
  stmt_size false register run place (set_reg m e) rest = omega (arith, word_size run e (λ w. write_op (mem mems m).ty (mem_number mems m) (w ∷ [])))
  stmt_size true register run place (set_out m e) rest = omega (arith, word_size run e (λ w. write_op (mem mems m).ty (mem_number mems m) (w ∷ [])))
  stmt_size true register run place (set_sram m is e) rest =
      let c : Codes = codes mems run.values.here (length run.ops) is in
      omega (arith, codes_size mems run.values.here is (length run.ops), length-append run.ops c.ops, word_size (with_ops run c.ops) e (λ w. write_op (mem mems m).ty (mem_number mems m) (c.words ++ w ∷ [])))
  stmt_size true register run place (enq m e) rest = omega (arith, word_size run e (λ w. accesses kind.Enq (mem mems m).ty (mem_number mems m) (w ∷ [])))
  stmt_size false register run place (set_out m e) rest = omega (arith, word_size run e (λ w. write_op (mem mems m).ty (mem_number mems m) (w ∷ [])))
  stmt_size false register run place (set_sram m is e) rest =
      let c : Codes = codes mems run.values.here (length run.ops) is in
      omega (arith, codes_size mems run.values.here is (length run.ops), length-append run.ops c.ops, word_size (with_ops run c.ops) e (λ w. write_op (mem mems m).ty (mem_number mems m) (c.words ++ w ∷ [])))
  stmt_size false register run place (enq m e) rest = omega (arith, word_size run e (λ w. accesses kind.Enq (mem mems m).ty (mem_number mems m) (w ∷ [])))
  stmt_size true register run place kind rest = omega arith
  stmt_size false register run place kind rest = omega arith

  inner_run_size : (run : Run) (body : PlainStmts) → length (inner_run mems run body).ops ≤ length run.ops + nodes_in body
  inner_run_size run no_stmt = omega arith
  inner_run_size run (more_stmt (stmt place kind) rest) = omega (arith, inner_run_size (with_stmt mems true None run kind) rest, stmt_size true None run place kind rest)

-- the combination over the elements of a memory of at most three dimensions
indices_nodes : (c : ℕ) (ds : List ℕ) → (tallies (element_indices c ds)).nodes ≡ length ds
indices_nodes c [] = refl
indices_nodes c (d ∷ ds) = omega (arith, indices_nodes (suc c) ds)

conjunction_nodes : (test : PlainExpr) (c : ℕ) (ds : List ℕ) → nodes_of (conjunction test c ds) ≡ nodes_of test + 4 * length ds
conjunction_nodes test c [] = omega arith
conjunction_nodes test c (d ∷ ds) = omega (arith, conjunction_nodes (expr 0 Bit (two binary.And test (is_last_at c d))) (suc c) ds)

last_nodes : (c : ℕ) (ds : List ℕ) → nodes_of (is_last_element c ds) ≤ 1 + 4 * length ds
last_nodes c [] = omega arith
last_nodes c (d ∷ ds) = omega (arith, conjunction_nodes (is_last_at c d) (suc c) ds)

counters_size_of : (c : ℕ) (ds : List ℕ) → counters_size (element_counters c ds) ≡ 2 * length ds
counters_size_of c [] = refl
counters_size_of c (d ∷ ds) = omega (arith, counters_size_of (suc c) ds)

module _ (mems : List PlainMem) (few : (m : ℕ) → length (dims mems m) ≤ 3) (counters : ℕ) where
  element_ops_size : (at word c : ℕ) (ds : List ℕ) (acc begun : ℕ) (ty : Ty) (comb : Comb) → length (element_ops mems at word c ds acc begun ty comb) ≤ 10 + 6 * length ds
  element_ops_size at word c ds acc begun ty comb =
      let is : Codes = codes mems no_sources (at + 1) (element_indices c ds) in
      let read : ℕ = at + 1 + length ds in
      let again : Codes = codes mems no_sources (read + 3) (element_indices c ds) in
      let last : Code = code mems no_sources (read + 4 + length ds) (is_last_element c ds) in
      let a : List PlainOp = read_op Bit begun [] ∷ is.ops in
      let b : List PlainOp = under at (read_op ty acc is.words) ∷ computes (kind.Two (operator_of comb)) ty (read ∷ word ∷ []) ∷ computes kind.Mux ty (at ∷ (read + 1) ∷ word ∷ []) ∷ again.ops in
      let d : List PlainOp = write_op ty acc (again.words ++ (read + 2) ∷ []) ∷ last.ops in
      let e : List PlainOp = literal_op Bit 1 ∷ under last.word (write_op Bit begun ((read + 4 + length ds + length last.ops) ∷ [])) ∷ [] in
      omega (
        arith,
        length-append (a ++ b ++ d) e,
        length-append (a ++ b) d,
        length-append a b,
        codes_size mems no_sources (element_indices c ds) (at + 1),
        codes_size mems no_sources (element_indices c ds) (read + 3),
        code_size mems no_sources (is_last_element c ds) (read + 4 + length ds),
        indices_nodes c ds,
        last_nodes c ds,
      )

  element_size : (part acc begun : ℕ) (comb : Comb) → node_size (element_loop mems counters (dims mems part) part acc begun (mem mems part).ty comb) ≤ 49
  element_size part acc begun comb =
      let ds : List ℕ = dims mems part in
      let ty : Ty = (mem mems part).ty in
      let value : Code = element_value mems counters ds part ty in
      omega (
        arith,
        few part,
        code_size mems no_sources (expr 0 ty (get_sram part (element_indices counters ds))) 0,
        indices_nodes counters ds,
        counters_size_of counters ds,
        element_ops_size (length value.ops) value.word counters ds acc begun ty comb,
        length-append value.ops (element_ops mems (length value.ops) value.word counters ds acc begun ty comb),
      )

  -- what a loop combines
  abbrev value_nodes : Combines → ℕ
  value_nodes (folds acc comb e) = nodes_of e
  value_nodes (reduces acc begun comb e) = nodes_of e
  value_nodes _ = 0

  combining_size : (at word : ℕ) (c : Combines) → length (combining mems counters at word c) ≤ 7
  combining_size at word nothing = omega arith
  combining_size at word (folds acc comb e) = omega arith
  combining_size at word (reduces acc begun comb e) = omega arith
  combining_size at word (reduces_elements part acc begun comb) = omega arith

  combination_size : (before : List PlainOp) (x : Code) (c : Combines) (loops : List core.PlainCounter) (owned : List ℕ) → node_size (combination mems counters before x c loops owned) ≤ 8 + counters_size loops + length before + length x.ops
  combination_size before x c loops owned =
      let more : List PlainOp = combining mems counters (length before + length x.ops) x.word c in
      omega (arith, combining_size (length before + length x.ops) x.word c, length-append before x.ops, length-append (before ++ x.ops) more)

  inner_size : (sources : Sources) (loops : List core.PlainCounter) (body : PlainStmts) (c : Combines) → node_size (inner_node mems counters sources loops body c) ≤ 8 + counters_size loops + nodes_in body + value_nodes c
  inner_size sources loops body nothing = omega (arith, inner_run_size mems (no_run sources) body)
  inner_size sources loops body (folds acc comb e) =
      let run : Run = inner_run mems (no_run sources) body in
      omega (arith, inner_run_size mems (no_run sources) body, code_size mems run.values.here e (length run.ops), combination_size run.ops (next_code mems run e) (folds acc comb e) loops (map (mem_number mems) (own_mems body)))
  inner_size sources loops body (reduces acc begun comb e) =
      let run : Run = inner_run mems (no_run sources) body in
      omega (arith, inner_run_size mems (no_run sources) body, code_size mems run.values.here e (length run.ops), combination_size run.ops (next_code mems run e) (reduces acc begun comb e) loops (map (mem_number mems) (own_mems body)))
  inner_size sources loops body (reduces_elements part acc begun comb) = omega (arith, inner_run_size mems (no_run sources) body)

  abbrev ending_nodes : Ending → ℕ
  ending_nodes no_more = 0
  ending_nodes (in_last_run e) = nodes_of e
  ending_nodes (in_combination e) = nodes_of e

  stage_size : (x : Code) (c : Combines) → stages_size (combination_stage mems counters x c) ≤ 8 + length x.ops
  stage_size x c = omega (arith, combination_size [] x c [] [])

  -- what the last stages may have beside a run and a word
  abbrev end_size : Combines → ℕ
  end_size (reduces_elements part acc begun comb) = 50
  end_size _ = 11

  end_least : (c : Combines) → 11 ≤ end_size c
  end_least nothing = omega arith
  end_least (folds acc comb e) = omega arith
  end_least (reduces acc begun comb e) = omega arith
  end_least (reduces_elements part acc begun comb) = omega arith

  last_run_size : (run : Run) (n : ℕ) (e : PlainExpr) (c : Combines)
      → stages_size (run_stage (run.ops ++ (next_code mems run e).ops ++ write_op (type_of e) n ((next_code mems run e).word ∷ []) ∷ []) (combination_stage mems counters (alone 0 (read_op (type_of e) n [])) c)) ≤ length run.ops + nodes_of e + 11
  last_run_size run n e c =
      let x : Code = next_code mems run e in
      omega (
        arith,
        run_size (run.ops ++ x.ops ++ write_op (type_of e) n (x.word ∷ []) ∷ []) (combination_stage mems counters (alone 0 (read_op (type_of e) n [])) c),
        stage_size (alone 0 (read_op (type_of e) n [])) c,
        code_size mems run.values.here e (length run.ops),
        length-append run.ops x.ops,
        one_more (run.ops ++ x.ops) (write_op (type_of e) n (x.word ∷ [])),
      )

  comb_run_size : (run : Run) (e : PlainExpr) (c : Combines) → stages_size (run_stage run.ops (combination_stage mems counters (code mems run.values.elsewhere 0 e) c)) ≤ length run.ops + nodes_of e + 11
  comb_run_size run e c = omega (arith, run_size run.ops (combination_stage mems counters (code mems run.values.elsewhere 0 e) c), stage_size (code mems run.values.elsewhere 0 e) c, code_size mems run.values.elsewhere e 0)

  last_size : (run : Run) (n : ℕ) (ending : Ending) (c : Combines) → stages_size (last_stages mems counters run n ending c) ≤ length run.ops + ending_nodes ending + end_size c
  last_size run n ending (reduces_elements part acc begun comb) =
      let x : PlainNode = element_loop mems counters (dims mems part) part acc begun (mem mems part).ty comb in
      omega (arith, run_size run.ops (more_stage 0 0 true x no_stage), element_size part acc begun comb)
  last_size run n no_more nothing = omega (arith, run_size run.ops no_stage)
  last_size run n no_more (folds acc comb e) = omega (arith, run_size run.ops no_stage)
  last_size run n no_more (reduces acc begun comb e) = omega (arith, run_size run.ops no_stage)
  last_size run n (in_combination e) nothing = comb_run_size run e nothing
  last_size run n (in_combination e) (folds acc comb x) = comb_run_size run e (folds acc comb x)
  last_size run n (in_combination e) (reduces acc begun comb x) = comb_run_size run e (reduces acc begun comb x)
  last_size run n (in_last_run e) nothing = last_run_size run n e nothing
  last_size run n (in_last_run e) (folds acc comb x) = last_run_size run n e (folds acc comb x)
  last_size run n (in_last_run e) (reduces acc begun comb x) = last_run_size run n e (reduces acc begun comb x)

  load_size : (sources : Sources) (n m r : ℕ) (spans : List PlainSpan) → node_size (load_node mems counters sources n m r spans) ≤ 1 + all_nodes (parts_of spans)
  load_size sources n m r spans = if_node (slice_lanes spans == 1) _ _ _ (omega (arith, spans_size_le mems sources (is_early_part spans) n spans)) (omega (arith, spans_size_le mems sources (is_early_part spans) n spans))

  store_size : (sources : Sources) (n r m : ℕ) (spans : List PlainSpan) → node_size (store_node mems counters sources n r m spans) ≤ 1 + all_nodes (parts_of spans)
  store_size sources n r m spans = if_node (slice_lanes spans == 1) _ _ _ (omega (arith, spans_size_le mems sources (is_early_part spans) n spans)) (omega (arith, spans_size_le mems sources (is_early_part spans) n spans))

  -- a body by its stages
  abbrev Body_fits : (before : ℕ) → PlainStmts → Ending → Combines → PlainStages → Type 0
  Body_fits before body ending c all = stages_size all ≤ before + ending_nodes ending + 24 * nodes_in body + end_size c

  outer_size : (n : ℕ) (loops : List core.PlainCounter) (style : Style) (body : PlainStmts) (ending : Ending) (c : Combines) (all : PlainStages) → Body_fits 0 body ending c all
      → node_size (outer_node mems counters n loops style body ending all) ≤ counters_size loops + ending_nodes ending + 24 * nodes_in body + end_size c + 1
  outer_size n loops style body ending c all h = omega (arith, h)

  pub body_size : (sources : Sources) (n : ℕ) (loops : List core.PlainCounter) (style : Style) (body : PlainStmts) (ending : Ending) (c : Combines) (all : PlainStages) → Body_fits 0 body ending c all
      → node_size (body_node mems counters sources n loops style body ending c all) ≤ counters_size loops + ending_nodes ending + value_nodes c + 24 * nodes_in body + end_size c + 1
  body_size sources n loops style body ending c all h =
      if_node (is_inner body) (inner_node mems counters sources loops body c) (outer_node mems counters n loops style body ending all) (counters_size loops + ending_nodes ending + value_nodes c + 24 * nodes_in body + end_size c + 1)
      (omega (arith, inner_size sources loops body c, end_least c)) (omega (arith, outer_size n loops style body ending c all h))

  ending_size : (loops : List PlainCounter) (e : PlainExpr) → ending_nodes (ending_of loops e) ≤ nodes_of e
  ending_size loops e = either (is_bare e)
      (λ f. subst (λ b. ending_nodes (if b then in_combination e else if lanes_of loops == 1 then in_combination e else in_last_run e) ≤ nodes_of e) (sym f) (omega arith))
      (λ f. subst (λ b. ending_nodes (if b then in_combination e else if lanes_of loops == 1 then in_combination e else in_last_run e) ≤ nodes_of e) (sym f) (two_endings (lanes_of loops == 1)))
    where
      two_endings : (b : Bool) → ending_nodes (if b then in_combination e else in_last_run e) ≤ nodes_of e
      two_endings true = omega arith
      two_endings false = omega arith

  combines_nodes : (fold : Bool) (acc begun : ℕ) (comb : Comb) (e : PlainExpr) → value_nodes (combines mems fold acc begun comb e) ≡ nodes_of e
  combines_nodes true acc begun comb e = refl
  combines_nodes false acc begun comb e = refl

  combines_end : (fold : Bool) (acc begun : ℕ) (comb : Comb) (e : PlainExpr) → end_size (combines mems fold acc begun comb e) ≡ 11
  combines_end true acc begun comb e = refl
  combines_end false acc begun comb e = refl

  -- a stage with what stands before it
  abbrev weight : PlainStmtKind → ℕ
  weight kind = 1 + sum_by (λ (t : Tally). t.nodes) (outside kind) + kind_nodes kind

  stage_fits : (run : Run) (n place : ℕ) (k : PlainStmtKind) (rest : PlainStmts) (ending : Ending) (c : Combines) (x : PlainNode) (others : PlainStages)
      → node_size x + 3 * sum_by (λ (t : Tally). t.nodes) (outside k) + 2 ≤ 24 * weight k → Body_fits 0 rest ending c others → nodes_in (more_stmt (stmt place k) rest) ≡ weight k + nodes_in rest
      → Body_fits (length run.ops) (more_stmt (stmt place k) rest) ending c (run_stage run.ops (early_stages mems run.values.elsewhere n k (more_stage 0 0 false x others)))
  stage_fits run n place k rest ending c x others fits all same =
      omega (arith, run_size run.ops (early_stages mems run.values.elsewhere n k (more_stage 0 0 false x others)), early_size mems run.values.elsewhere n k (more_stage 0 0 false x others), fits, all, same)

  plain_fits : (run later : Run) (place : ℕ) (k : PlainStmtKind) (rest : PlainStmts) (ending : Ending) (c : Combines) (all : PlainStages)
      → length later.ops + nodes_in rest ≤ length run.ops + nodes_in (more_stmt (stmt place k) rest) → nodes_in rest ≤ nodes_in (more_stmt (stmt place k) rest) → Body_fits (length later.ops) rest ending c all → Body_fits (length run.ops) (more_stmt (stmt place k) rest) ending c all
  plain_fits run later place k rest ending c all ops nodes h = omega (arith, ops, nodes, h)

  mutual
    unfolding stages node

    pub stages_fit : (run : Run) (n : ℕ) (body : PlainStmts) (ending : Ending) (c : Combines) → Looped body → Body_fits (length run.ops) body ending c (stages mems counters run n body ending c)
    stages_fit run n no_stmt ending c h = omega (arith, last_size run n ending c)
    stages_fit run n (more_stmt (stmt place (declare m)) rest) ending c h =
        let later : Run = with_stmt mems false (first_of n (beside (declare m) rest ending)) run (declare m) in
        plain_fits run later place (declare m) rest ending c (stages mems counters later (n + length (beside (declare m) rest ending)) rest ending c) (stmt_size mems false (first_of n (beside (declare m) rest ending)) run place (declare m) rest) (omega arith)
        (stages_fit later (n + length (beside (declare m) rest ending)) rest ending c h.1)
    stages_fit run n (more_stmt (stmt place (name v e)) rest) ending c h =
        let later : Run = with_stmt mems false (first_of n (beside (name v e) rest ending)) run (name v e) in
        plain_fits run later place (name v e) rest ending c (stages mems counters later (n + length (beside (name v e) rest ending)) rest ending c) (stmt_size mems false (first_of n (beside (name v e) rest ending)) run place (name v e) rest) (omega arith)
        (stages_fit later (n + length (beside (name v e) rest ending)) rest ending c h.1)
    stages_fit run n (more_stmt (stmt place (set_reg m e)) rest) ending c h =
        let later : Run = with_stmt mems false (first_of n (beside (set_reg m e) rest ending)) run (set_reg m e) in
        plain_fits run later place (set_reg m e) rest ending c (stages mems counters later (n + length (beside (set_reg m e) rest ending)) rest ending c) (stmt_size mems false (first_of n (beside (set_reg m e) rest ending)) run place (set_reg m e) rest) (omega arith)
        (stages_fit later (n + length (beside (set_reg m e) rest ending)) rest ending c h.1)
    stages_fit run n (more_stmt (stmt place (set_out m e)) rest) ending c h =
        let later : Run = with_stmt mems false (first_of n (beside (set_out m e) rest ending)) run (set_out m e) in
        plain_fits run later place (set_out m e) rest ending c (stages mems counters later (n + length (beside (set_out m e) rest ending)) rest ending c) (stmt_size mems false (first_of n (beside (set_out m e) rest ending)) run place (set_out m e) rest) (omega arith)
        (stages_fit later (n + length (beside (set_out m e) rest ending)) rest ending c h.1)
    stages_fit run n (more_stmt (stmt place (set_sram m is e)) rest) ending c h =
        let later : Run = with_stmt mems false (first_of n (beside (set_sram m is e) rest ending)) run (set_sram m is e) in
        plain_fits run later place (set_sram m is e) rest ending c (stages mems counters later (n + length (beside (set_sram m is e) rest ending)) rest ending c) (stmt_size mems false (first_of n (beside (set_sram m is e) rest ending)) run place (set_sram m is e) rest) (omega arith)
        (stages_fit later (n + length (beside (set_sram m is e) rest ending)) rest ending c h.1)
    stages_fit run n (more_stmt (stmt place (enq m e)) rest) ending c h =
        let later : Run = with_stmt mems false (first_of n (beside (enq m e) rest ending)) run (enq m e) in
        plain_fits run later place (enq m e) rest ending c (stages mems counters later (n + length (beside (enq m e) rest ending)) rest ending c) (stmt_size mems false (first_of n (beside (enq m e) rest ending)) run place (enq m e) rest) (omega arith)
        (stages_fit later (n + length (beside (enq m e) rest ending)) rest ending c h.1)
    stages_fit run n (more_stmt (stmt place (load_sram sram dram spans)) rest) ending c h =
        stage_fits run n place (load_sram sram dram spans) rest ending c (node mems counters run.values.elsewhere n (n + length (beside (load_sram sram dram spans) rest ending)) (load_sram sram dram spans))
        (stages mems counters (no_run run.values.elsewhere) (n + length (beside (load_sram sram dram spans) rest ending) + length (inside (load_sram sram dram spans))) rest ending c)
        (node_fits (load_sram sram dram spans) run.values.elsewhere n (n + length (beside (load_sram sram dram spans) rest ending)) tt h.0)
        (stages_fit (no_run run.values.elsewhere) (n + length (beside (load_sram sram dram spans) rest ending) + length (inside (load_sram sram dram spans))) rest ending c h.1) refl
    stages_fit run n (more_stmt (stmt place (load_line line dram spans)) rest) ending c h =
        stage_fits run n place (load_line line dram spans) rest ending c (node mems counters run.values.elsewhere n (n + length (beside (load_line line dram spans) rest ending)) (load_line line dram spans))
        (stages mems counters (no_run run.values.elsewhere) (n + length (beside (load_line line dram spans) rest ending) + length (inside (load_line line dram spans))) rest ending c)
        (node_fits (load_line line dram spans) run.values.elsewhere n (n + length (beside (load_line line dram spans) rest ending)) tt h.0)
        (stages_fit (no_run run.values.elsewhere) (n + length (beside (load_line line dram spans) rest ending) + length (inside (load_line line dram spans))) rest ending c h.1) refl
    stages_fit run n (more_stmt (stmt place (store dram spans sram)) rest) ending c h =
        stage_fits run n place (store dram spans sram) rest ending c (node mems counters run.values.elsewhere n (n + length (beside (store dram spans sram) rest ending)) (store dram spans sram))
        (stages mems counters (no_run run.values.elsewhere) (n + length (beside (store dram spans sram) rest ending) + length (inside (store dram spans sram))) rest ending c)
        (node_fits (store dram spans sram) run.values.elsewhere n (n + length (beside (store dram spans sram) rest ending)) tt h.0)
        (stages_fit (no_run run.values.elsewhere) (n + length (beside (store dram spans sram) rest ending) + length (inside (store dram spans sram))) rest ending c h.1) refl
    stages_fit run n (more_stmt (stmt place (gather sram dram places e)) rest) ending c h =
        stage_fits run n place (gather sram dram places e) rest ending c (node mems counters run.values.elsewhere n (n + length (beside (gather sram dram places e) rest ending)) (gather sram dram places e))
        (stages mems counters (no_run run.values.elsewhere) (n + length (beside (gather sram dram places e) rest ending) + length (inside (gather sram dram places e))) rest ending c)
        (node_fits (gather sram dram places e) run.values.elsewhere n (n + length (beside (gather sram dram places e) rest ending)) tt h.0)
        (stages_fit (no_run run.values.elsewhere) (n + length (beside (gather sram dram places e) rest ending) + length (inside (gather sram dram places e))) rest ending c h.1) refl
    stages_fit run n (more_stmt (stmt place (scatter dram places e sram)) rest) ending c h =
        stage_fits run n place (scatter dram places e sram) rest ending c (node mems counters run.values.elsewhere n (n + length (beside (scatter dram places e sram) rest ending)) (scatter dram places e sram))
        (stages mems counters (no_run run.values.elsewhere) (n + length (beside (scatter dram places e sram) rest ending) + length (inside (scatter dram places e sram))) rest ending c)
        (node_fits (scatter dram places e sram) run.values.elsewhere n (n + length (beside (scatter dram places e sram) rest ending)) tt h.0)
        (stages_fit (no_run run.values.elsewhere) (n + length (beside (scatter dram places e sram) rest ending) + length (inside (scatter dram places e sram))) rest ending c h.1) refl
    stages_fit run n (more_stmt (stmt place (block style body)) rest) ending c h =
        stage_fits run n place (block style body) rest ending c (node mems counters run.values.elsewhere n (n + length (beside (block style body) rest ending)) (block style body))
        (stages mems counters (no_run run.values.elsewhere) (n + length (beside (block style body) rest ending) + length (inside (block style body))) rest ending c)
        (node_fits (block style body) run.values.elsewhere n (n + length (beside (block style body) rest ending)) tt h.0)
        (stages_fit (no_run run.values.elsewhere) (n + length (beside (block style body) rest ending) + length (inside (block style body))) rest ending c h.1) refl
    stages_fit run n (more_stmt (stmt place (foreach style loops body)) rest) ending c h =
        stage_fits run n place (foreach style loops body) rest ending c (node mems counters run.values.elsewhere n (n + length (beside (foreach style loops body) rest ending)) (foreach style loops body))
        (stages mems counters (no_run run.values.elsewhere) (n + length (beside (foreach style loops body) rest ending) + length (inside (foreach style loops body))) rest ending c)
        (node_fits (foreach style loops body) run.values.elsewhere n (n + length (beside (foreach style loops body) rest ending)) tt h.0)
        (stages_fit (no_run run.values.elsewhere) (n + length (beside (foreach style loops body) rest ending) + length (inside (foreach style loops body))) rest ending c h.1) refl
    stages_fit run n (more_stmt (stmt place (reduce style fold acc loops body e comb)) rest) ending c h =
        stage_fits run n place (reduce style fold acc loops body e comb) rest ending c (node mems counters run.values.elsewhere n (n + length (beside (reduce style fold acc loops body e comb) rest ending)) (reduce style fold acc loops body e comb))
        (stages mems counters (no_run run.values.elsewhere) (n + length (beside (reduce style fold acc loops body e comb) rest ending) + length (inside (reduce style fold acc loops body e comb))) rest ending c)
        (node_fits (reduce style fold acc loops body e comb) run.values.elsewhere n (n + length (beside (reduce style fold acc loops body e comb) rest ending)) tt h.0)
        (stages_fit (no_run run.values.elsewhere) (n + length (beside (reduce style fold acc loops body e comb) rest ending) + length (inside (reduce style fold acc loops body e comb))) rest ending c h.1) refl
    stages_fit run n (more_stmt (stmt place (mem_reduce style acc loops body part comb)) rest) ending c h =
        stage_fits run n place (mem_reduce style acc loops body part comb) rest ending c (node mems counters run.values.elsewhere n (n + length (beside (mem_reduce style acc loops body part comb) rest ending)) (mem_reduce style acc loops body part comb))
        (stages mems counters (no_run run.values.elsewhere) (n + length (beside (mem_reduce style acc loops body part comb) rest ending) + length (inside (mem_reduce style acc loops body part comb))) rest ending c)
        (node_fits (mem_reduce style acc loops body part comb) run.values.elsewhere n (n + length (beside (mem_reduce style acc loops body part comb) rest ending)) tt h.0)
        (stages_fit (no_run run.values.elsewhere) (n + length (beside (mem_reduce style acc loops body part comb) rest ending) + length (inside (mem_reduce style acc loops body part comb))) rest ending c h.1) refl
    stages_fit run n (more_stmt (stmt place (fsm start tested test state body last next)) rest) ending c h =
        stage_fits run n place (fsm start tested test state body last next) rest ending c (node mems counters run.values.elsewhere n (n + length (beside (fsm start tested test state body last next) rest ending)) (fsm start tested test state body last next))
        (stages mems counters (no_run run.values.elsewhere) (n + length (beside (fsm start tested test state body last next) rest ending) + length (inside (fsm start tested test state body last next))) rest ending c)
        (node_fits (fsm start tested test state body last next) run.values.elsewhere n (n + length (beside (fsm start tested test state body last next) rest ending)) tt h.0)
        (stages_fit (no_run run.values.elsewhere) (n + length (beside (fsm start tested test state body last next) rest ending) + length (inside (fsm start tested test state body last next))) rest ending c h.1) refl
    stages_fit run n (more_stmt (stmt place (branch test first second)) rest) ending c h =
        stage_fits run n place (branch test first second) rest ending c (node mems counters run.values.elsewhere n (n + length (beside (branch test first second) rest ending)) (branch test first second))
        (stages mems counters (no_run run.values.elsewhere) (n + length (beside (branch test first second) rest ending) + length (inside (branch test first second))) rest ending c)
        (node_fits (branch test first second) run.values.elsewhere n (n + length (beside (branch test first second) rest ending)) tt h.0)
        (stages_fit (no_run run.values.elsewhere) (n + length (beside (branch test first second) rest ending) + length (inside (branch test first second))) rest ending c h.1) refl

    node_fits : (kind : PlainStmtKind) (sources : Sources) (b n : ℕ) → IsStageKind kind → IsLooped kind → node_size (node mems counters sources b n kind) + 3 * sum_by (λ (t : Tally). t.nodes) (outside kind) + 2 ≤ 24 * weight kind
    node_fits (load_sram sram dram spans) sources b n t h = omega (arith, load_size sources b sram dram spans, part_nodes spans, alone_nodes (slice_tally spans))
    node_fits (load_line line dram spans) sources b n t h = omega (arith, load_size sources b line dram spans, part_nodes spans, alone_nodes (slice_tally spans))
    node_fits (store dram spans sram) sources b n t h = omega (arith, store_size sources b dram sram spans, part_nodes spans, alone_nodes (slice_tally spans))
    node_fits (gather sram dram places e) sources b n t h = omega (arith, from_size mems sources is_early b e, alone_nodes (tally e))
    node_fits (scatter dram places e sram) sources b n t h = omega (arith, from_size mems sources is_early b e, alone_nodes (tally e))
    node_fits (block style body) sources b n t h = omega (arith, body_size sources n [] (style_of mems counters style body) body no_more nothing (stages mems counters (no_run sources) n body no_more nothing) (stages_fit (no_run sources) n body no_more nothing h))
    node_fits (foreach style loops body) sources b n t h = omega (arith, loops_size mems sources b loops, bound_nodes loops, body_size sources n (counters_of mems sources b loops) style body no_more nothing (stages mems counters (no_run sources) n body no_more nothing) (stages_fit (no_run sources) n body no_more nothing h))
    node_fits (reduce style fold acc loops body e comb) sources b n t h =
        let c : Combines = combines mems fold acc (b + length (registers_for is_early (bounds_of loops))) comb e in
        omega (arith, loops_size mems sources b loops, bound_nodes loops, ending_size loops e, combines_nodes fold acc (b + length (registers_for is_early (bounds_of loops))) comb e, combines_end fold acc (b + length (registers_for is_early (bounds_of loops))) comb e, body_size sources n (counters_of mems sources b loops) style body (ending_of loops e) c (stages mems counters (no_run sources) n body (ending_of loops e) c) (stages_fit (no_run sources) n body (ending_of loops e) c h))
    node_fits (mem_reduce style acc loops body part comb) sources b n t h =
        let c : Combines = reduces_elements part (mem_number mems acc) (b + length (registers_for is_early (bounds_of loops))) comb in
        omega (arith, loops_size mems sources b loops, bound_nodes loops, outer_size n (counters_of mems sources b loops) style body no_more c (stages mems counters (no_run sources) n body no_more c) (stages_fit (no_run sources) n body no_more c h.1), some_bounds loops h.0)
    node_fits (fsm start tested test state body last next) sources b n t h =
        let kept : Sources = with_state sources tested state last n in
        omega (arith, code_size mems sources start 0, code_size mems kept test 0, code_size mems kept next 0, body_size kept (suc n) [] Pipe body no_more nothing (stages mems counters (no_run kept) (suc n) body no_more nothing) (stages_fit (no_run kept) (suc n) body no_more nothing h))
    node_fits (branch test first second) sources b n t h =
        let m : ℕ = n + length (registers_in first no_more) in
        omega (arith, code_size mems sources test 0, some_nodes test, body_size sources n [] Pipe first no_more nothing (stages mems counters (no_run sources) n first no_more nothing) (stages_fit (no_run sources) n first no_more nothing h.0), body_size sources m [] Pipe second no_more nothing (stages mems counters (no_run sources) m second no_more nothing) (stages_fit (no_run sources) m second no_more nothing h.1))
    node_fits _ sources b n t h = absurd t
