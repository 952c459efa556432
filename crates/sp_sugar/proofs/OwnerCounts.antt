-- How often a memory stands among those that the nodes of a part of a core own: as often as it is declared in the part of the
-- program, or once where it is one of the registers that are added for it.
use Rattle.std.proofs.Common.{◌≡◌, ℕ, zero, suc, ◌+◌, Bool, true, false, List, [], ◌∷◌, ◌++◌, refl, sym, ◌∙◌, ap, subst, arith, length-append, ◌==◌, if◌then◌else◌}
use Rattle.std.proofs.lemmas.Bool.{false≢true}
use Rattle.std.specs.Prelude.{length, map}
use Rattle.sp_words.specs.declared.kind.Style.{Style}
use Rattle.sp_words.specs.declared.kind.Style.TheVariants.{Pipe}
use Rattle.sp_tree.specs.PlainExpression.{PlainExpr, type_of}
use Rattle.sp_tree.specs.PlainProgram.{PlainMem}
use Rattle.sp_tree.specs.PlainStatement.{PlainSpan, PlainStmtKind, PlainStmts, stmt, declare, name, set_reg, set_out, set_sram, enq, load_sram, load_line, store, gather, scatter, block, foreach, reduce, mem_reduce, fsm, branch, no_stmt, more_stmt}
use Rattle.sp_tree.specs.Structure.{own_mems, mems_declared, mems_in, is_inner, slice_lanes}
use Rattle.sp_core.specs.Invariant.{owned_in, owned_in_stages}
use Rattle.sp_core.specs.PlainCore as core
use Rattle.sp_core.specs.PlainCore.{PlainOp, PlainCounter, PlainNode, PlainStages, more_stage}
use Rattle.sp_sugar.specs.Early.{registers_for, counters_of, is_early, is_early_slice, is_early_part, parts_of, bounds_of, into_register, slice_ops, stage_of, bound_stages, slice_stage, early_stages}
use Rattle.sp_sugar.specs.Numbers.{mem_number, numbers_from}
use Rattle.sp_sugar.specs.Operations.{alone, read_op, write_op}
use Rattle.sp_sugar.specs.Registers.{ending_of, beside, inside, registers, registers_in, owned_registers}
use Rattle.sp_sugar.specs.Runs.{Run, no_run, next_code, with_stmt}
use Rattle.sp_sugar.specs.Stages.{combination_stage, run_stage, first_of, Combines, nothing, folds, reduces, reduces_elements, combines, inner_node, last_stages, load_node, store_node, style_of, outer_node, body_node, stages, node}
use Rattle.sp_sugar.specs.Uses.{Ending, no_more, in_last_run, in_combination}
use Rattle.sp_sugar.specs.Values.{Sources, with_state}
use Rattle.sp_sugar.proofs.NumberLemmas.{either}

abbrev pub one_if : Bool → ℕ
one_if true = 1
one_if false = 0

-- how often a number stands in a list
abbrev pub count_of : ℕ → List ℕ → ℕ
count_of k [] = 0
count_of k (x ∷ xs) = one_if (x == k) + count_of k xs

pub count_append : (k : ℕ) (xs ys : List ℕ) → count_of k (xs ++ ys) ≡ count_of k xs + count_of k ys
count_append k [] ys = omega arith
count_append k (x ∷ xs) ys = omega (arith, count_append k xs ys)

pub count_split : (k n a b : ℕ) → count_of k (numbers_from n (a + b)) ≡ count_of k (numbers_from n a) + count_of k (numbers_from (n + a) b)
count_split k n zero b = ap (λ x. count_of k (numbers_from n x)) {x = zero + b} {y = b} (omega arith) ∙ ap (λ x. count_of k (numbers_from x b)) {x = n} {y = n + zero} (omega arith) ∙ omega arith
count_split k n (suc a) b =
    ap (λ x. count_of k (numbers_from n x)) {x = suc a + b} {y = suc (a + b)} (omega arith)
    ∙ ap (λ x. one_if (n == k) + x) (count_split k (suc n) a b)
    ∙ ap (λ x. one_if (n == k) + (count_of k (numbers_from (suc n) a) + count_of k (numbers_from x b))) {x = suc n + a} {y = n + suc a} (omega arith)
    ∙ omega arith

-- a controller or a transfer
abbrev pub IsStageKind : PlainStmtKind → Type 0
IsStageKind (declare m) = ⊥
IsStageKind (name v e) = ⊥
IsStageKind (set_reg m e) = ⊥
IsStageKind (set_out m e) = ⊥
IsStageKind (set_sram m is e) = ⊥
IsStageKind (enq m e) = ⊥
IsStageKind _ = Unit {0}

run_owned : (ops : List PlainOp) (rest : PlainStages) → owned_in_stages (run_stage ops rest) ≡ owned_in_stages rest
run_owned [] rest = refl
run_owned (op ∷ ops) rest = refl

module _ (mems : List PlainMem) (counters : ℕ) (k : ℕ) where
  abbrev declared_count : List ℕ → ℕ
  declared_count ms = count_of k (map (mem_number mems) ms)

  map_append : (xs ys : List ℕ) → declared_count (xs ++ ys) ≡ declared_count xs + declared_count ys
  map_append [] ys = omega arith
  map_append (x ∷ xs) ys = omega (arith, map_append xs ys)

  if_owned : (b : Bool) (xs ys : PlainStages) (all : List ℕ) → owned_in_stages xs ≡ all → owned_in_stages ys ≡ all → owned_in_stages (if b then xs else ys) ≡ all
  if_owned true xs ys all e f = e
  if_owned false xs ys all e f = f

  if_node : (b : Bool) (x y : PlainNode) → owned_in x ≡ [] → owned_in y ≡ [] → owned_in (if b then x else y) ≡ []
  if_node true x y e f = e
  if_node false x y e f = f

  bounds_owned : (sources : Sources) (r : ℕ) (es : List PlainExpr) (rest : PlainStages) → owned_in_stages (bound_stages mems sources r es rest) ≡ owned_in_stages rest
  bounds_owned sources r [] rest = refl
  bounds_owned sources r (e ∷ es) rest =
      if_owned (is_early e) (stage_of (into_register mems sources 0 r e) (bound_stages mems sources (suc r) es rest)) (bound_stages mems sources r es rest) (owned_in_stages rest) (bounds_owned sources (suc r) es rest) (bounds_owned sources r es rest)

  slice_owned : (sources : Sources) (r : ℕ) (spans : List PlainSpan) (rest : PlainStages) → owned_in_stages (slice_stage mems sources r spans rest) ≡ owned_in_stages rest
  slice_owned sources r spans rest = if_owned (is_early_slice spans) (stage_of (slice_ops mems sources (is_early_part spans) 0 r (parts_of spans)) rest) rest (owned_in_stages rest) refl refl

  early_owned : (sources : Sources) (r : ℕ) (kind : PlainStmtKind) (rest : PlainStages) → owned_in_stages (early_stages mems sources r kind rest) ≡ owned_in_stages rest
  early_owned sources r (load_sram sram dram spans) rest = slice_owned sources r spans rest
  early_owned sources r (load_line line dram spans) rest = slice_owned sources r spans rest
  early_owned sources r (store dram spans sram) rest = slice_owned sources r spans rest
  early_owned sources r (gather sram dram places e) rest = bounds_owned sources r (e ∷ []) rest
  early_owned sources r (scatter dram places e sram) rest = bounds_owned sources r (e ∷ []) rest
  early_owned sources r (foreach style loops body) rest = bounds_owned sources r (bounds_of loops) rest
  early_owned sources r (reduce style fold acc loops body e comb) rest = bounds_owned sources r (bounds_of loops) rest
  early_owned sources r (mem_reduce style acc loops body part comb) rest = bounds_owned sources r (bounds_of loops) rest
  early_owned sources r _ rest = refl

  last_word_owned : (run : Run) (n : ℕ) (e : PlainExpr) (c : Combines)
      → owned_in_stages (run_stage (run.ops ++ (next_code mems run e).ops ++ write_op (type_of e) n ((next_code mems run e).word ∷ []) ∷ []) (combination_stage mems counters (alone 0 (read_op (type_of e) n [])) c)) ≡ []
  last_word_owned run n e c = run_owned (run.ops ++ (next_code mems run e).ops ++ write_op (type_of e) n ((next_code mems run e).word ∷ []) ∷ []) (combination_stage mems counters (alone 0 (read_op (type_of e) n [])) c)

  last_owned : (run : Run) (n : ℕ) (ending : Ending) (c : Combines) → owned_in_stages (last_stages mems counters run n ending c) ≡ []
  last_owned run n ending (reduces_elements part acc begun comb) = run_owned run.ops _
  last_owned run n no_more nothing = run_owned run.ops _
  last_owned run n no_more (folds acc comb e) = run_owned run.ops _
  last_owned run n no_more (reduces acc begun comb e) = run_owned run.ops _
  last_owned run n (in_combination e) nothing = run_owned run.ops _
  last_owned run n (in_combination e) (folds acc comb x) = run_owned run.ops _
  last_owned run n (in_combination e) (reduces acc begun comb x) = run_owned run.ops _
  last_owned run n (in_last_run e) nothing = last_word_owned run n e nothing
  last_owned run n (in_last_run e) (folds acc comb x) = last_word_owned run n e (folds acc comb x)
  last_owned run n (in_last_run e) (reduces acc begun comb x) = last_word_owned run n e (reduces acc begun comb x)

  load_owned : (sources : Sources) (n m r : ℕ) (spans : List PlainSpan) → owned_in (load_node mems counters sources n m r spans) ≡ []
  load_owned sources n m r spans = if_node (slice_lanes spans == 1) _ _ refl refl

  store_owned : (sources : Sources) (n r m : ℕ) (spans : List PlainSpan) → owned_in (store_node mems counters sources n r m spans) ≡ []
  store_owned sources n r m spans = if_node (slice_lanes spans == 1) _ _ refl refl

  inner_owned : (sources : Sources) (loops : List PlainCounter) (body : PlainStmts) (c : Combines) → owned_in (inner_node mems counters sources loops body c) ≡ map (mem_number mems) (own_mems body)
  inner_owned sources loops body nothing = refl
  inner_owned sources loops body (folds acc comb e) = refl
  inner_owned sources loops body (reduces acc begun comb e) = refl
  inner_owned sources loops body (reduces_elements part acc begun comb) = refl

  -- an inner body declares only what it owns
  inner_declared : (body : PlainStmts) → is_inner body ≡ true → mems_declared body ≡ own_mems body
  inner_declared no_stmt e = refl
  inner_declared (more_stmt (stmt place (declare m)) rest) e = ap (λ ms. m ∷ ms) (inner_declared rest e)
  inner_declared (more_stmt (stmt place (name v x)) rest) e = inner_declared rest e
  inner_declared (more_stmt (stmt place (set_reg m x)) rest) e = inner_declared rest e
  inner_declared (more_stmt (stmt place (set_out m x)) rest) e = inner_declared rest e
  inner_declared (more_stmt (stmt place (set_sram m is x)) rest) e = inner_declared rest e
  inner_declared (more_stmt (stmt place (enq m x)) rest) e = inner_declared rest e
  inner_declared (more_stmt (stmt place k) rest) e = absurd (false≢true e)

  abbrev numbered : (n count : ℕ) → ℕ
  numbered n count = count_of k (numbers_from n count)

  -- the registers of a body that is owned by its stages, and its memories
  abbrev Body_counts : (n : ℕ) → PlainStmts → Ending → PlainStages → Type 0
  Body_counts n body ending all = count_of k (owned_in_stages all) + (declared_count (own_mems body) + count_of k (owned_registers n body ending)) ≡ declared_count (mems_declared body) + numbered n (length (registers body ending))

  outer_counts : (n : ℕ) (loops : List PlainCounter) (style : Style) (body : PlainStmts) (ending : Ending) (all : PlainStages) → Body_counts n body ending all
      → count_of k (owned_in (outer_node mems counters n loops style body ending all)) ≡ declared_count (mems_declared body) + numbered n (length (registers body ending))
  outer_counts n loops style body ending all h =
      omega (arith, h, count_append k (map (mem_number mems) (own_mems body) ++ owned_registers n body ending) (owned_in_stages all), count_append k (map (mem_number mems) (own_mems body)) (owned_registers n body ending))

  abbrev Choice : (sources : Sources) (n : ℕ) (loops : List PlainCounter) (style : Style) (body : PlainStmts) (ending : Ending) (c : Combines) (all : PlainStages) → Bool → Type 0
  Choice sources n loops style body ending c all b =
      count_of k (owned_in (if b then inner_node mems counters sources loops body c else outer_node mems counters n loops style body ending all)) ≡ declared_count (mems_declared body) + numbered n (length (if b then [] else registers body ending))

  pub body_counts : (sources : Sources) (n : ℕ) (loops : List PlainCounter) (style : Style) (body : PlainStmts) (ending : Ending) (c : Combines) (all : PlainStages) → Body_counts n body ending all
      → count_of k (owned_in (body_node mems counters sources n loops style body ending c all)) ≡ declared_count (mems_declared body) + numbered n (length (registers_in body ending))
  body_counts sources n loops style body ending c all h = either (is_inner body)
      (λ e. subst (Choice sources n loops style body ending c all) (sym e) (ap (count_of k) (inner_owned sources loops body c) ∙ ap declared_count (sym (inner_declared body e)) ∙ omega arith))
      (λ e. subst (Choice sources n loops style body ending c all) (sym e) (outer_counts n loops style body ending all h))

  registers_split : (n : ℕ) (bs is rs : List core.PlainMem) → numbered n (length (bs ++ is ++ rs)) ≡ numbered n (length bs) + numbered (n + length bs) (length is) + numbered (n + length bs + length is) (length rs)
  registers_split n bs is rs =
      ap (numbered n) {x = length (bs ++ is ++ rs)} {y = length bs + (length is + length rs)} (omega (arith, length-append (bs ++ is) rs, length-append bs is))
      ∙ count_split k n (length bs) (length is + length rs)
      ∙ ap (λ x. numbered n (length bs) + x) (count_split k (n + length bs) (length is) (length rs))
      ∙ omega arith

  -- what a statement declares and the registers inside of it
  abbrev Node_counts : (n : ℕ) → PlainStmtKind → PlainNode → Type 0
  Node_counts n kind x = count_of k (owned_in x) ≡ declared_count (mems_in kind) + numbered n (length (inside kind))

  -- a statement that is a stage, in the stages of its body
  stage_counts : (run : Run) (n : ℕ) (place : ℕ) (kind : PlainStmtKind) (rest : PlainStmts) (ending : Ending) (x : PlainNode) (others : PlainStages)
      → own_mems (more_stmt (stmt place kind) rest) ≡ own_mems rest
      → Node_counts (n + length (beside kind rest ending)) kind x
      → Body_counts (n + length (beside kind rest ending) + length (inside kind)) rest ending others
      → Body_counts n (more_stmt (stmt place kind) rest) ending (run_stage run.ops (early_stages mems run.values.elsewhere n kind (more_stage 0 0 false x others)))
  unfolding registers inside
  stage_counts run n place kind rest ending x others same one all =
      let here : List core.PlainMem = beside kind rest ending in
      let e1 : count_of k (owned_in_stages (run_stage run.ops (early_stages mems run.values.elsewhere n kind (more_stage 0 0 false x others)))) ≡ count_of k (owned_in x) + count_of k (owned_in_stages others) =
      ap (count_of k) (run_owned run.ops (early_stages mems run.values.elsewhere n kind (more_stage 0 0 false x others)) ∙ early_owned run.values.elsewhere n kind (more_stage 0 0 false x others)) ∙ count_append k (owned_in x) (owned_in_stages others) in
      let e2 : declared_count (own_mems (more_stmt (stmt place kind) rest)) ≡ declared_count (own_mems rest) = ap declared_count same in
      omega (arith, e1, e2, count_append k (numbers_from n (length here)) (owned_registers (n + length here + length (inside kind)) rest ending), map_append (mems_in kind) (mems_declared rest), registers_split n here (inside kind) (registers rest ending), one, all)

  -- and one that isn't
  plain_counts : (n : ℕ) (place : ℕ) (kind : PlainStmtKind) (rest : PlainStmts) (ending : Ending) (others : PlainStages)
      → inside kind ≡ [] → declared_count (own_mems (more_stmt (stmt place kind) rest)) ≡ declared_count (mems_in kind) + declared_count (own_mems rest)
      → Body_counts (n + length (beside kind rest ending)) rest ending others → Body_counts n (more_stmt (stmt place kind) rest) ending others
  unfolding registers inside
  plain_counts n place kind rest ending others none same all =
      let here : List core.PlainMem = beside kind rest ending in
      let e0 : n + length here + length (inside kind) ≡ n + length here = ap (λ (l : List core.PlainMem). n + length here + length l) none ∙ omega arith in
      let e1 : count_of k (owned_registers (n + length here + length (inside kind)) rest ending) ≡ count_of k (owned_registers (n + length here) rest ending) = ap (λ m. count_of k (owned_registers m rest ending)) e0 in
      let e2 : numbered (n + length here + length (inside kind)) (length (registers rest ending)) ≡ numbered (n + length here) (length (registers rest ending)) = ap (λ m. numbered m (length (registers rest ending))) e0 in
      let e3 : numbered (n + length here) (length (inside kind)) ≡ 0 = ap (λ (l : List core.PlainMem). numbered (n + length here) (length l)) none in
      omega (arith, e1, e2, e3, same, count_append k (numbers_from n (length here)) (owned_registers (n + length here + length (inside kind)) rest ending), map_append (mems_in kind) (mems_declared rest), registers_split n here (inside kind) (registers rest ending), all)

  mutual
    unfolding stages node registers inside

    pub stages_count : (run : Run) (n : ℕ) (body : PlainStmts) (ending : Ending) (c : Combines) → Body_counts n body ending (stages mems counters run n body ending c)
    stages_count run n no_stmt ending c = let e : count_of k (owned_in_stages (last_stages mems counters run n ending c)) ≡ 0 = ap (count_of k) (last_owned run n ending c) in omega (arith, e)
    stages_count run n (more_stmt (stmt place (declare m)) rest) ending c =
        plain_counts n place (declare m) rest ending (stages mems counters (with_stmt mems false (first_of n (beside (declare m) rest ending)) run (declare m)) (n + length (beside (declare m) rest ending)) rest ending c) refl (omega arith)
        (stages_count (with_stmt mems false (first_of n (beside (declare m) rest ending)) run (declare m)) (n + length (beside (declare m) rest ending)) rest ending c)
    stages_count run n (more_stmt (stmt place (name v e)) rest) ending c =
        plain_counts n place (name v e) rest ending (stages mems counters (with_stmt mems false (first_of n (beside (name v e) rest ending)) run (name v e)) (n + length (beside (name v e) rest ending)) rest ending c) refl (omega arith)
        (stages_count (with_stmt mems false (first_of n (beside (name v e) rest ending)) run (name v e)) (n + length (beside (name v e) rest ending)) rest ending c)
    stages_count run n (more_stmt (stmt place (set_reg m e)) rest) ending c =
        plain_counts n place (set_reg m e) rest ending (stages mems counters (with_stmt mems false (first_of n (beside (set_reg m e) rest ending)) run (set_reg m e)) (n + length (beside (set_reg m e) rest ending)) rest ending c) refl (omega arith)
        (stages_count (with_stmt mems false (first_of n (beside (set_reg m e) rest ending)) run (set_reg m e)) (n + length (beside (set_reg m e) rest ending)) rest ending c)
    stages_count run n (more_stmt (stmt place (set_out m e)) rest) ending c =
        plain_counts n place (set_out m e) rest ending (stages mems counters (with_stmt mems false (first_of n (beside (set_out m e) rest ending)) run (set_out m e)) (n + length (beside (set_out m e) rest ending)) rest ending c) refl (omega arith)
        (stages_count (with_stmt mems false (first_of n (beside (set_out m e) rest ending)) run (set_out m e)) (n + length (beside (set_out m e) rest ending)) rest ending c)
    stages_count run n (more_stmt (stmt place (set_sram m is e)) rest) ending c =
        plain_counts n place (set_sram m is e) rest ending (stages mems counters (with_stmt mems false (first_of n (beside (set_sram m is e) rest ending)) run (set_sram m is e)) (n + length (beside (set_sram m is e) rest ending)) rest ending c) refl (omega arith)
        (stages_count (with_stmt mems false (first_of n (beside (set_sram m is e) rest ending)) run (set_sram m is e)) (n + length (beside (set_sram m is e) rest ending)) rest ending c)
    stages_count run n (more_stmt (stmt place (enq m e)) rest) ending c =
        plain_counts n place (enq m e) rest ending (stages mems counters (with_stmt mems false (first_of n (beside (enq m e) rest ending)) run (enq m e)) (n + length (beside (enq m e) rest ending)) rest ending c) refl (omega arith)
        (stages_count (with_stmt mems false (first_of n (beside (enq m e) rest ending)) run (enq m e)) (n + length (beside (enq m e) rest ending)) rest ending c)
    stages_count run n (more_stmt (stmt place (load_sram sram dram spans)) rest) ending c =
        stage_counts run n place (load_sram sram dram spans) rest ending (node mems counters run.values.elsewhere n (n + length (beside (load_sram sram dram spans) rest ending)) (load_sram sram dram spans))
        (stages mems counters (no_run run.values.elsewhere) (n + length (beside (load_sram sram dram spans) rest ending) + length (inside (load_sram sram dram spans))) rest ending c) refl
        (node_counts (load_sram sram dram spans) run.values.elsewhere n (n + length (beside (load_sram sram dram spans) rest ending)) tt)
        (stages_count (no_run run.values.elsewhere) (n + length (beside (load_sram sram dram spans) rest ending) + length (inside (load_sram sram dram spans))) rest ending c)
    stages_count run n (more_stmt (stmt place (load_line line dram spans)) rest) ending c =
        stage_counts run n place (load_line line dram spans) rest ending (node mems counters run.values.elsewhere n (n + length (beside (load_line line dram spans) rest ending)) (load_line line dram spans))
        (stages mems counters (no_run run.values.elsewhere) (n + length (beside (load_line line dram spans) rest ending) + length (inside (load_line line dram spans))) rest ending c) refl
        (node_counts (load_line line dram spans) run.values.elsewhere n (n + length (beside (load_line line dram spans) rest ending)) tt)
        (stages_count (no_run run.values.elsewhere) (n + length (beside (load_line line dram spans) rest ending) + length (inside (load_line line dram spans))) rest ending c)
    stages_count run n (more_stmt (stmt place (store dram spans sram)) rest) ending c =
        stage_counts run n place (store dram spans sram) rest ending (node mems counters run.values.elsewhere n (n + length (beside (store dram spans sram) rest ending)) (store dram spans sram))
        (stages mems counters (no_run run.values.elsewhere) (n + length (beside (store dram spans sram) rest ending) + length (inside (store dram spans sram))) rest ending c) refl
        (node_counts (store dram spans sram) run.values.elsewhere n (n + length (beside (store dram spans sram) rest ending)) tt)
        (stages_count (no_run run.values.elsewhere) (n + length (beside (store dram spans sram) rest ending) + length (inside (store dram spans sram))) rest ending c)
    stages_count run n (more_stmt (stmt place (gather sram dram places e)) rest) ending c =
        stage_counts run n place (gather sram dram places e) rest ending (node mems counters run.values.elsewhere n (n + length (beside (gather sram dram places e) rest ending)) (gather sram dram places e))
        (stages mems counters (no_run run.values.elsewhere) (n + length (beside (gather sram dram places e) rest ending) + length (inside (gather sram dram places e))) rest ending c) refl
        (node_counts (gather sram dram places e) run.values.elsewhere n (n + length (beside (gather sram dram places e) rest ending)) tt)
        (stages_count (no_run run.values.elsewhere) (n + length (beside (gather sram dram places e) rest ending) + length (inside (gather sram dram places e))) rest ending c)
    stages_count run n (more_stmt (stmt place (scatter dram places e sram)) rest) ending c =
        stage_counts run n place (scatter dram places e sram) rest ending (node mems counters run.values.elsewhere n (n + length (beside (scatter dram places e sram) rest ending)) (scatter dram places e sram))
        (stages mems counters (no_run run.values.elsewhere) (n + length (beside (scatter dram places e sram) rest ending) + length (inside (scatter dram places e sram))) rest ending c) refl
        (node_counts (scatter dram places e sram) run.values.elsewhere n (n + length (beside (scatter dram places e sram) rest ending)) tt)
        (stages_count (no_run run.values.elsewhere) (n + length (beside (scatter dram places e sram) rest ending) + length (inside (scatter dram places e sram))) rest ending c)
    stages_count run n (more_stmt (stmt place (block style body)) rest) ending c =
        stage_counts run n place (block style body) rest ending (node mems counters run.values.elsewhere n (n + length (beside (block style body) rest ending)) (block style body))
        (stages mems counters (no_run run.values.elsewhere) (n + length (beside (block style body) rest ending) + length (inside (block style body))) rest ending c) refl
        (node_counts (block style body) run.values.elsewhere n (n + length (beside (block style body) rest ending)) tt)
        (stages_count (no_run run.values.elsewhere) (n + length (beside (block style body) rest ending) + length (inside (block style body))) rest ending c)
    stages_count run n (more_stmt (stmt place (foreach style loops body)) rest) ending c =
        stage_counts run n place (foreach style loops body) rest ending (node mems counters run.values.elsewhere n (n + length (beside (foreach style loops body) rest ending)) (foreach style loops body))
        (stages mems counters (no_run run.values.elsewhere) (n + length (beside (foreach style loops body) rest ending) + length (inside (foreach style loops body))) rest ending c) refl
        (node_counts (foreach style loops body) run.values.elsewhere n (n + length (beside (foreach style loops body) rest ending)) tt)
        (stages_count (no_run run.values.elsewhere) (n + length (beside (foreach style loops body) rest ending) + length (inside (foreach style loops body))) rest ending c)
    stages_count run n (more_stmt (stmt place (reduce style fold acc loops body e comb)) rest) ending c =
        stage_counts run n place (reduce style fold acc loops body e comb) rest ending (node mems counters run.values.elsewhere n (n + length (beside (reduce style fold acc loops body e comb) rest ending)) (reduce style fold acc loops body e comb))
        (stages mems counters (no_run run.values.elsewhere) (n + length (beside (reduce style fold acc loops body e comb) rest ending) + length (inside (reduce style fold acc loops body e comb))) rest ending c) refl
        (node_counts (reduce style fold acc loops body e comb) run.values.elsewhere n (n + length (beside (reduce style fold acc loops body e comb) rest ending)) tt)
        (stages_count (no_run run.values.elsewhere) (n + length (beside (reduce style fold acc loops body e comb) rest ending) + length (inside (reduce style fold acc loops body e comb))) rest ending c)
    stages_count run n (more_stmt (stmt place (mem_reduce style acc loops body part comb)) rest) ending c =
        stage_counts run n place (mem_reduce style acc loops body part comb) rest ending (node mems counters run.values.elsewhere n (n + length (beside (mem_reduce style acc loops body part comb) rest ending)) (mem_reduce style acc loops body part comb))
        (stages mems counters (no_run run.values.elsewhere) (n + length (beside (mem_reduce style acc loops body part comb) rest ending) + length (inside (mem_reduce style acc loops body part comb))) rest ending c) refl
        (node_counts (mem_reduce style acc loops body part comb) run.values.elsewhere n (n + length (beside (mem_reduce style acc loops body part comb) rest ending)) tt)
        (stages_count (no_run run.values.elsewhere) (n + length (beside (mem_reduce style acc loops body part comb) rest ending) + length (inside (mem_reduce style acc loops body part comb))) rest ending c)
    stages_count run n (more_stmt (stmt place (fsm start tested test state body last next)) rest) ending c =
        stage_counts run n place (fsm start tested test state body last next) rest ending (node mems counters run.values.elsewhere n (n + length (beside (fsm start tested test state body last next) rest ending)) (fsm start tested test state body last next))
        (stages mems counters (no_run run.values.elsewhere) (n + length (beside (fsm start tested test state body last next) rest ending) + length (inside (fsm start tested test state body last next))) rest ending c) refl
        (node_counts (fsm start tested test state body last next) run.values.elsewhere n (n + length (beside (fsm start tested test state body last next) rest ending)) tt)
        (stages_count (no_run run.values.elsewhere) (n + length (beside (fsm start tested test state body last next) rest ending) + length (inside (fsm start tested test state body last next))) rest ending c)
    stages_count run n (more_stmt (stmt place (branch test first second)) rest) ending c =
        stage_counts run n place (branch test first second) rest ending (node mems counters run.values.elsewhere n (n + length (beside (branch test first second) rest ending)) (branch test first second))
        (stages mems counters (no_run run.values.elsewhere) (n + length (beside (branch test first second) rest ending) + length (inside (branch test first second))) rest ending c) refl
        (node_counts (branch test first second) run.values.elsewhere n (n + length (beside (branch test first second) rest ending)) tt)
        (stages_count (no_run run.values.elsewhere) (n + length (beside (branch test first second) rest ending) + length (inside (branch test first second))) rest ending c)

    node_counts : (kind : PlainStmtKind) (sources : Sources) (b n : ℕ) → IsStageKind kind → Node_counts n kind (node mems counters sources b n kind)
    node_counts (load_sram sram dram spans) sources b n t = ap (count_of k) (load_owned sources b sram dram spans) ∙ omega arith
    node_counts (load_line line dram spans) sources b n t = ap (count_of k) (load_owned sources b line dram spans) ∙ omega arith
    node_counts (store dram spans sram) sources b n t = ap (count_of k) (store_owned sources b dram sram spans) ∙ omega arith
    node_counts (gather sram dram places e) sources b n t = omega arith
    node_counts (scatter dram places e sram) sources b n t = omega arith
    node_counts (block style body) sources b n t =
        body_counts sources n [] (style_of mems counters style body) body no_more nothing (stages mems counters (no_run sources) n body no_more nothing) (stages_count (no_run sources) n body no_more nothing)
    node_counts (foreach style loops body) sources b n t =
        body_counts sources n (counters_of mems sources b loops) style body no_more nothing (stages mems counters (no_run sources) n body no_more nothing) (stages_count (no_run sources) n body no_more nothing)
    node_counts (reduce style fold acc loops body e comb) sources b n t =
        let c : Combines = combines mems fold acc (b + length (registers_for is_early (bounds_of loops))) comb e in
        body_counts sources n (counters_of mems sources b loops) style body (ending_of loops e) c (stages mems counters (no_run sources) n body (ending_of loops e) c) (stages_count (no_run sources) n body (ending_of loops e) c)
    node_counts (mem_reduce style acc loops body part comb) sources b n t =
        let c : Combines = reduces_elements part (mem_number mems acc) (b + length (registers_for is_early (bounds_of loops))) comb in
        outer_counts n (counters_of mems sources b loops) style body no_more (stages mems counters (no_run sources) n body no_more c) (stages_count (no_run sources) n body no_more c)
    node_counts (fsm start tested test state body last next) sources b n t =
        let kept : Sources = with_state sources tested state last n in
        let e : count_of k (owned_in (body_node mems counters kept (suc n) [] Pipe body no_more nothing (stages mems counters (no_run kept) (suc n) body no_more nothing))) ≡ declared_count (mems_declared body) + numbered (suc n) (length (registers_in body no_more)) =
        body_counts kept (suc n) [] Pipe body no_more nothing (stages mems counters (no_run kept) (suc n) body no_more nothing) (stages_count (no_run kept) (suc n) body no_more nothing) in
        omega (arith, e)
    node_counts (branch test first second) sources b n t =
        let m : ℕ = n + length (registers_in first no_more) in
        let x : PlainNode = body_node mems counters sources n [] Pipe first no_more nothing (stages mems counters (no_run sources) n first no_more nothing) in
        let y : PlainNode = body_node mems counters sources m [] Pipe second no_more nothing (stages mems counters (no_run sources) m second no_more nothing) in
        let e : count_of k (owned_in x) ≡ declared_count (mems_declared first) + numbered n (length (registers_in first no_more)) =
        body_counts sources n [] Pipe first no_more nothing (stages mems counters (no_run sources) n first no_more nothing) (stages_count (no_run sources) n first no_more nothing) in
        let f : count_of k (owned_in y) ≡ declared_count (mems_declared second) + numbered m (length (registers_in second no_more)) =
        body_counts sources m [] Pipe second no_more nothing (stages mems counters (no_run sources) m second no_more nothing) (stages_count (no_run sources) m second no_more nothing) in
        let g : numbered n (length (registers_in first no_more ++ registers_in second no_more)) ≡ numbered n (length (registers_in first no_more)) + numbered m (length (registers_in second no_more)) =
        ap (numbered n) (length-append (registers_in first no_more) (registers_in second no_more)) ∙ count_split k n (length (registers_in first no_more)) (length (registers_in second no_more)) in
        omega (arith, e, f, g, count_append k (owned_in x) (owned_in y), map_append (mems_declared first) (mems_declared second))
    node_counts _ sources b n t = absurd t
