-- The combinations of the core of a program take words that stand before them, and have counters of their own.
use Rattle.std.proofs.Common.{◌≡◌, ℕ, zero, suc, ◌+◌, ◌<◌, ◌≤◌, Bool, true, false, ◌||◌, List, [], ◌∷◌, ◌++◌, length, map, drop, Option, Some, None, refl, sym, ◌∙◌, ap, subst, arith, ◌==◌, if◌then◌else◌}
use Rattle.std.proofs.lemmas.Bool.{ne_eqb, or_left, or_right}
use Rattle.std.proofs.lemmas.List.{length-append}
use Rattle.sp_words.specs.declared.kind.Style.{Style}
use Rattle.sp_words.specs.declared.kind.Style.TheVariants.{Pipe}
use Rattle.sp_words.specs.declared.types.Ty.{Ty}
use Rattle.sp_tree.specs.declared.statement.Comb.{Comb}
use Rattle.sp_tree.specs.Elements.{numbers_below}
use Rattle.sp_tree.specs.Expressions.{mem, dims}
use Rattle.sp_tree.specs.Invariant.{IsProgram}
use Rattle.sp_tree.specs.PlainExpression.{PlainExpr, expr, get_sram, type_of}
use Rattle.sp_tree.specs.PlainProgram.{PlainProgram, PlainMem}
use Rattle.sp_tree.specs.PlainStatement.{PlainCounter, PlainStmtKind, PlainStmts, stmt, declare, name, set_reg, set_out, set_sram, enq, load_sram, load_line, store, gather, scatter, block, foreach, reduce, mem_reduce, fsm, branch, no_stmt, more_stmt}
use Rattle.sp_tree.specs.Structure.{own_mems, slice_lanes, is_inner, counter_numbers, counters_declared, counters_in}
use Rattle.sp_tree.specs.Tallies.{Tally, primitive}
use Rattle.sp_core.specs.Declarations.{is_among}
use Rattle.sp_core.specs.PlainCore as core_tree
use Rattle.sp_core.specs.PlainCore.{PlainOp, PlainNode, PlainStages, no_stage, more_stage}
use Rattle.sp_core.specs.Store.{changed}
use Rattle.sp_lanes.specs.Combined.{meeting}
use Rattle.sp_sugar.specs.Combination.{element_counters, element_indices, element_value, element_loop}
use Rattle.sp_sugar.specs.Core.{core_of}
use Rattle.sp_sugar.specs.Early.{bounds_of, is_early, registers_for, after as after_word, stage_of, early_stages, counters_of}
use Rattle.sp_sugar.specs.Numbers.{mem_number, written_mems}
use Rattle.sp_sugar.specs.Operations.{Code, alone, read_op, write_op, code}
use Rattle.sp_sugar.specs.Registers.{ending_of, beside, inside, registers_in}
use Rattle.sp_sugar.specs.Runs.{Run, no_run, next_code, with_stmt, inner_run}
use Rattle.sp_sugar.specs.Stages.{run_stage, first_of, Combines, nothing, folds, reduces, reduces_elements, combines, combination, combination_stage, inner_node, last_stages, style_of, outer_node, body_node, stages, node}
use Rattle.sp_sugar.specs.Uses.{uses, counters_use, are_using, is_using, names_after, Ending, no_more, in_last_run, in_combination}
use Rattle.sp_sugar.specs.Values.{Sources, no_sources, with_state, in_register}
use Rattle.sp_sugar.proofs.NodeSteps.{ending_is, ending_used}
use Rattle.sp_sugar.proofs.UseLemmas.{used, only}
use Rattle.sp_lane_cores.specs.LanedMarks.{Combination, folded, reduced, element, combination_ops}
use Rattle.sp_lane_cores.proofs.LanedEarlier.{run_good, early_good}
use Rattle.sp_lane_rules.specs.CombinedStanding.{numbers_of, AreApart}
use Rattle.sp_lane_rules.proofs.CombinedMeets.{drop_front}
use Rattle.sp_lane_cores.specs.Standing.{StandsApart, StandApart}
use Rattle.sp_lane_cores.proofs.Forms.{met_by, meets}
use Rattle.sp_lane_cores.proofs.Near.{AreNear, BareNear, bare_near, changed_near, code_near, HereNear, LaterNear, here_near, inner_near, later_near, rest_near, node_near, later_of}

-- numbers below one
abbrev AllLess : ℕ → List ℕ → Type 0
AllLess n [] = Unit {0}
AllLess n (x ∷ xs) = (x < n) × AllLess n xs

less_front : (n : ℕ) (xs ys : List ℕ) → AllLess n (xs ++ ys) → AllLess n xs
less_front n [] ys h = tt
less_front n (x ∷ xs) ys h = (h.0, less_front n xs ys h.1)

less_back : (n : ℕ) (xs ys : List ℕ) → AllLess n (xs ++ ys) → AllLess n ys
less_back n [] ys h = h
less_back n (x ∷ xs) ys h = less_back n xs ys h.1

less_append : (n : ℕ) (xs ys : List ℕ) → AllLess n xs → AllLess n ys → AllLess n (xs ++ ys)
less_append n [] ys h k = k
less_append n (x ∷ xs) ys h k = (h.0, less_append n xs ys h.1 k)

less_more : (n k : ℕ) (xs : List ℕ) → n ≤ k → AllLess n xs → AllLess k xs
less_more n k [] le h = tt
less_more n k (x ∷ xs) le h = (let lt = h.0 in omega (arith, le, lt), less_more n k xs le h.1)

below_less : (n : ℕ) → AllLess n (numbers_below n)
below_less zero = tt
below_less (suc n) = less_append (suc n) (numbers_below n) (n ∷ []) (less_more n (suc n) (numbers_below n) (omega arith) (below_less n)) (omega arith, tt)

not_among : (n c : ℕ) (xs : List ℕ) → n ≤ c → AllLess n xs → is_among c xs ≡ false
not_among n c [] le h = refl
not_among n c (x ∷ xs) le h = neither (c == x) (is_among c xs) (ne_eqb c x (λ e. let lt = h.0 in absurd (omega (arith, e, le, lt)))) (not_among n c xs le h.1)
  where
    neither : (a b : Bool) → a ≡ false → b ≡ false → (a || b) ≡ false
    neither true b e f = e
    neither false b e f = f

elements_apart : (n c : ℕ) (ds : List ℕ) (numbers : List ℕ) → n ≤ c → AllLess n numbers → AreApart numbers (element_counters c ds)
elements_apart n c [] numbers le h = tt
elements_apart n c (d ∷ ds) numbers le h = (not_among n c numbers le h, elements_apart n (suc c) ds numbers (omega arith) h)

counters_less : (mems : List PlainMem) (sources : Sources) (n b : ℕ) (loops : List PlainCounter) → AllLess n (counter_numbers loops) → AllLess n (numbers_of (counters_of mems sources b loops))
counters_less mems sources n b [] h = tt
counters_less mems sources n b (c ∷ loops) h = (h.0, counters_less mems sources n (after_word is_early (after_word is_early b c.from) c.until) loops h.1)

-- a combination after operations
combined_before : (front : List PlainOp) (at : ℕ) (c : Combination) → length front ≡ at → (met_by c).word < at → (meeting (drop at (front ++ combination_ops at c))).word < at
combined_before front at c e lt =
    subst (λ l. (meeting l).word < at) (sym (ap (λ n. drop n (front ++ combination_ops at c)) (sym e) ∙ drop_front front (combination_ops at c)))
    (subst (λ m. m.word < at) (sym (meets at c)) lt)

if_apart : (numbers : List ℕ) (b : Bool) (x y : PlainNode) → StandsApart numbers x → StandsApart numbers y → StandsApart numbers (if b then x else y)
if_apart numbers true x y h k = h
if_apart numbers false x y h k = k

-- a word is combined; and where one is combined at the end of a body, it is one
abbrev OneWord : Combines → Type 0
OneWord (folds acc comb e) = Unit {0}
OneWord (reduces acc begun comb e) = Unit {0}
OneWord c = ⊥

abbrev EndWell : Ending → Combines → Type 0
EndWell ending (reduces_elements part acc begun comb) = Unit {0}
EndWell no_more c = Unit {0}
EndWell ending c = OneWord c

-- values that are used at the beginning of a body that combines
abbrev WordNear : Sources → PlainStmts → Combines → Type 0
WordNear sources body (folds acc comb e) = AreNear (λ v. used (only v) body (in_last_run e)) 0 sources
WordNear sources body (reduces acc begun comb e) = AreNear (λ v. used (only v) body (in_last_run e)) 0 sources
WordNear sources body c = Unit {0}

or_last : (a b c : Bool) → (b || c) ≡ true → ((a || b) || c) ≡ true
or_last true b c e = refl
or_last false b c e = e

or_none : (a : Bool) → (a || false) ≡ true → a ≡ true
or_none true e = refl
or_none false e = e

module _ (mems : List PlainMem) (counters : ℕ) where
  -- the word that is combined stands among its operations, or before them
  combination_apart : (before : List PlainOp) (x : Code) (c : Combines) (numbers : List ℕ) (loops : List core_tree.PlainCounter) (owned : List ℕ) → OneWord c → x.word < length before + length x.ops
      → StandsApart numbers (combination mems counters before x c loops owned)
  combination_apart before x nothing numbers loops owned some lt = absurd some
  combination_apart before x (folds acc comb e) numbers loops owned some lt =
      combined_before (before ++ x.ops) (length before + length x.ops) (folded x.word acc (type_of e) comb) (length-append before x.ops) lt
  combination_apart before x (reduces acc begun comb e) numbers loops owned some lt =
      combined_before (before ++ x.ops) (length before + length x.ops) (reduced x.word acc begun (type_of e) comb) (length-append before x.ops) lt
  combination_apart before x (reduces_elements part acc begun comb) numbers loops owned some lt = absurd some

  elements_loop_apart : (numbers : List ℕ) (ds : List ℕ) (part acc begun : ℕ) (ty : Ty) (comb : Comb) → StandsApart numbers (element_loop mems counters ds part acc begun ty comb)
  elements_loop_apart numbers ds part acc begun ty comb =
      let value : Code = element_value mems counters ds part ty in
      combined_before value.ops (length value.ops) (element mems value.word counters ds acc begun ty comb) refl (let lt = code_near mems no_sources 0 (expr 0 ty (get_sram part (element_indices counters ds))) tt in omega (arith, lt))

  -- an inner body
  inner_apart : (sources : Sources) (loops : List core_tree.PlainCounter) (body : PlainStmts) (c : Combines) (numbers : List ℕ) → WordNear sources body c → StandsApart numbers (inner_node mems counters sources loops body c)
  inner_apart sources loops body nothing numbers h = tt
  inner_apart sources loops body (folds acc comb e) numbers h =
      let run : Run = inner_run mems (no_run sources) body in
      combination_apart run.ops (next_code mems run e) (folds acc comb e) numbers loops (map (mem_number mems) (own_mems body)) tt
      (code_near mems run.values.here (length run.ops) e (bare_near (length run.ops) run.values.here e (inner_near mems (no_run sources) body (in_last_run e) h)))
  inner_apart sources loops body (reduces acc begun comb e) numbers h =
      let run : Run = inner_run mems (no_run sources) body in
      combination_apart run.ops (next_code mems run e) (reduces acc begun comb e) numbers loops (map (mem_number mems) (own_mems body)) tt
      (code_near mems run.values.here (length run.ops) e (bare_near (length run.ops) run.values.here e (inner_near mems (no_run sources) body (in_last_run e) h)))
  inner_apart sources loops body (reduces_elements part acc begun comb) numbers h = tt

  good : (numbers : List ℕ) (ops : List PlainOp) (rest : PlainStages) → StandApart numbers rest → StandApart numbers (stage_of ops rest)
  good numbers ops rest h = (tt, h)

  run_apart : (numbers : List ℕ) (ops : List PlainOp) (rest : PlainStages) → StandApart numbers rest → StandApart numbers (run_stage ops rest)
  run_apart numbers ops rest h = run_good (λ xs. StandApart numbers xs) (good numbers) ops rest h

  -- the combination after the stages of a body
  stage_apart : (numbers : List ℕ) (x : Code) (c : Combines) → OneWord c → x.word < length x.ops → StandApart numbers (combination_stage mems counters x c)
  stage_apart numbers x c some lt = (tt, combination_apart [] x c numbers [] [] some (omega (arith, lt)), tt)

  after_run : (numbers : List ℕ) (n : ℕ) (run : Run) (e : PlainExpr) (c : Combines) → OneWord c → StandApart numbers (last_stages mems counters run n (in_last_run e) c)
  after_run numbers n run e nothing some = absurd some
  after_run numbers n run e (folds acc comb x) some = run_apart numbers (run.ops ++ (next_code mems run e).ops ++ write_op (type_of e) n ((next_code mems run e).word ∷ []) ∷ []) (combination_stage mems counters (alone 0 (read_op (type_of e) n [])) (folds acc comb x))
      (stage_apart numbers (alone 0 (read_op (type_of e) n [])) (folds acc comb x) tt (omega arith))
  after_run numbers n run e (reduces acc begun comb x) some = run_apart numbers (run.ops ++ (next_code mems run e).ops ++ write_op (type_of e) n ((next_code mems run e).word ∷ []) ∷ []) (combination_stage mems counters (alone 0 (read_op (type_of e) n [])) (reduces acc begun comb x))
      (stage_apart numbers (alone 0 (read_op (type_of e) n [])) (reduces acc begun comb x) tt (omega arith))
  after_run numbers n run e (reduces_elements part acc begun comb) some = absurd some

  as_stage : (numbers : List ℕ) (n : ℕ) (run : Run) (e : PlainExpr) (c : Combines) → OneWord c → BareNear 0 run.values.elsewhere e → StandApart numbers (last_stages mems counters run n (in_combination e) c)
  as_stage numbers n run e nothing some b = absurd some
  as_stage numbers n run e (folds acc comb x) some b =
      run_apart numbers run.ops _ (stage_apart numbers (code mems run.values.elsewhere 0 e) (folds acc comb x) tt (let lt = code_near mems run.values.elsewhere 0 e b in omega (arith, lt)))
  as_stage numbers n run e (reduces acc begun comb x) some b =
      run_apart numbers run.ops _ (stage_apart numbers (code mems run.values.elsewhere 0 e) (reduces acc begun comb x) tt (let lt = code_near mems run.values.elsewhere 0 e b in omega (arith, lt)))
  as_stage numbers n run e (reduces_elements part acc begun comb) some b = absurd some

  elements_apart_after : (numbers : List ℕ) (n : ℕ) (run : Run) (ending : Ending) (part acc begun : ℕ) (comb : Comb) → AllLess counters numbers → StandApart numbers (last_stages mems counters run n ending (reduces_elements part acc begun comb))
  elements_apart_after numbers n run ending part acc begun comb less =
      run_apart numbers run.ops _ (elements_apart counters counters (dims mems part) numbers (omega arith) less, elements_loop_apart numbers (dims mems part) part acc begun (mem mems part).ty comb, tt)

  last_apart : (numbers : List ℕ) (n : ℕ) (run : Run) (ending : Ending) (c : Combines) → AllLess counters numbers → EndWell ending c → LaterNear mems run no_stmt ending → StandApart numbers (last_stages mems counters run n ending c)
  last_apart numbers n run ending (reduces_elements part acc begun comb) less well h = elements_apart_after numbers n run ending part acc begun comb less
  last_apart numbers n run no_more nothing less well h = run_apart numbers run.ops no_stage tt
  last_apart numbers n run no_more (folds acc comb e) less well h = run_apart numbers run.ops no_stage tt
  last_apart numbers n run no_more (reduces acc begun comb e) less well h = run_apart numbers run.ops no_stage tt
  last_apart numbers n run (in_last_run e) nothing less well h = absurd well
  last_apart numbers n run (in_last_run e) (folds acc comb x) less well h = after_run numbers n run e (folds acc comb x) tt
  last_apart numbers n run (in_last_run e) (reduces acc begun comb x) less well h = after_run numbers n run e (reduces acc begun comb x) tt
  last_apart numbers n run (in_combination e) nothing less well h = absurd well
  last_apart numbers n run (in_combination e) (folds acc comb x) less well h = as_stage numbers n run e (folds acc comb x) tt (bare_near 0 run.values.elsewhere e h)
  last_apart numbers n run (in_combination e) (reduces acc begun comb x) less well h = as_stage numbers n run e (reduces acc begun comb x) tt (bare_near 0 run.values.elsewhere e h)

  -- a statement is of a run, or a stage
  choose : (numbers : List ℕ) (k : PlainStmtKind) (xs : Tally → PlainStages) (ys : PlainStages) (o : Option Tally) → primitive k ≡ o → ((t : Tally) → primitive k ≡ Some t → StandApart numbers (xs t)) → (primitive k ≡ None → StandApart numbers ys)
      → StandApart numbers (elim o as (λ _. PlainStages) [ Some t ↦ xs t | None ↦ ys ])
  choose numbers k xs ys (Some t) e f g = f t e
  choose numbers k xs ys None e f g = g e

  -- a body, by its nodes
  body_apart : (sources : Sources) (n : ℕ) (loops : List core_tree.PlainCounter) (style : Style) (body : PlainStmts) (ending : Ending) (c : Combines) (all : PlainStages) (numbers : List ℕ)
      → WordNear sources body c → StandApart (numbers_of loops ++ numbers) all → StandsApart numbers (body_node mems counters sources n loops style body ending c all)
  body_apart sources n loops style body ending c all numbers h k =
      if_apart numbers (is_inner body) (inner_node mems counters sources loops body c) (outer_node mems counters n loops style body ending all) (inner_apart sources loops body c numbers h) k

  plain_near : (sources : Sources) (is : (ℕ → Bool) → Bool) (body : PlainStmts) → ((v : ℕ) → are_using (only v) body ≡ true → is (only v) ≡ true) → AreNear (λ v. is (only v)) 0 sources → AreNear (λ v. used (only v) body no_more) 0 sources
  plain_near sources is body f h v u = h v (f v (or_none (are_using (only v) body) u))

  word_near : (sources : Sources) (body : PlainStmts) (loops : List PlainCounter) (fold : Bool) (acc begun : ℕ) (comb : Comb) (e : PlainExpr)
      → AreNear (λ v. (counters_use (only v) loops || are_using (only v) body) || uses (names_after (only v) body) e) 0 sources → WordNear sources body (combines mems fold acc begun comb e)
  word_near sources body loops true acc begun comb e h = λ v u. h v (or_last (counters_use (only v) loops) (are_using (only v) body) (uses (names_after (only v) body) e) u)
  word_near sources body loops false acc begun comb e h = λ v u. h v (or_last (counters_use (only v) loops) (are_using (only v) body) (uses (names_after (only v) body) e) u)

  body_near : (sources : Sources) (body : PlainStmts) (loops : List PlainCounter) (e : PlainExpr)
      → AreNear (λ v. (counters_use (only v) loops || are_using (only v) body) || uses (names_after (only v) body) e) 0 sources → AreNear (λ v. used (only v) body (ending_of loops e)) 0 sources
  body_near sources body loops e h v u = h v (or_last (counters_use (only v) loops) (are_using (only v) body) (uses (names_after (only v) body) e) (sym (ending_used (only v) body loops e) ∙ u))

  end_well : (loops : List PlainCounter) (fold : Bool) (acc begun : ℕ) (comb : Comb) (e : PlainExpr) → EndWell (ending_of loops e) (combines mems fold acc begun comb e)
  end_well loops true acc begun comb e = ending_is (λ ending. EndWell ending (folds (mem_number mems acc) comb e)) loops e tt tt
  end_well loops false acc begun comb e = ending_is (λ ending. EndWell ending (reduces (mem_number mems acc) begun comb e)) loops e tt tt

  state_near : (sources : Sources) (tested state last r : ℕ) (needed : ℕ → Bool) → AreNear needed 0 sources → AreNear needed 0 (with_state sources tested state last r)
  state_near sources tested state last r needed h v u =
      changed_near 0 (changed (changed sources tested (in_register r)) state (in_register r)) last (in_register r) v (λ i. tt) (λ i. changed_near 0 (changed sources tested (in_register r)) state (in_register r) v (λ j. tt) (λ j. changed_near 0 sources tested (in_register r) v (λ m. tt) (λ m. h v u)))

  mutual
    unfolding stages node

    stages_apart : (run : Run) (n : ℕ) (body : PlainStmts) (ending : Ending) (c : Combines) (numbers : List ℕ) → AllLess counters numbers → AllLess counters (counters_declared body) → EndWell ending c
        → HereNear mems run body ending → LaterNear mems run body ending → StandApart numbers (stages mems counters run n body ending c)
    stages_apart run n no_stmt ending c numbers less own well here later = last_apart numbers n run ending c less well later
    stages_apart run n (more_stmt (stmt place k) rest) ending c numbers less own well here later = choose numbers k
        (λ t. stages mems counters (with_stmt mems false (first_of n (beside k rest ending)) run k) (n + length (beside k rest ending)) rest ending c)
        (run_stage run.ops (early_stages mems run.values.elsewhere n k (more_stage 0 0 false (node mems counters run.values.elsewhere n (n + length (beside k rest ending)) k)
        (stages mems counters (no_run run.values.elsewhere) (n + length (beside k rest ending) + length (inside k)) rest ending c))))
        (primitive k) refl
        (λ t e. stages_apart (with_stmt mems false (first_of n (beside k rest ending)) run k) (n + length (beside k rest ending)) rest ending c numbers less (less_back counters (counters_in k) (counters_declared rest) own) well
        (here_near mems false (first_of n (beside k rest ending)) run place k rest ending here) (later_near mems run place n rest ending k t e later))
        (λ e. run_apart numbers run.ops _ (early_good (λ xs. StandApart numbers xs) (good numbers) mems run.values.elsewhere n k _ (
          node_apart run.values.elsewhere n (n + length (beside k rest ending)) k numbers less (less_front counters (counters_in k) (counters_declared rest) own) (node_near run.values.elsewhere place k rest ending e later),
          stages_apart (no_run run.values.elsewhere) (n + length (beside k rest ending) + length (inside k)) rest ending c numbers less (less_back counters (counters_in k) (counters_declared rest) own) well
              (rest_near run.values.elsewhere place k rest ending e later) (later_of run.values.elsewhere rest ending (rest_near run.values.elsewhere place k rest ending e later)),
        )))

    node_apart : (sources : Sources) (b n : ℕ) (k : PlainStmtKind) (numbers : List ℕ) → AllLess counters numbers → AllLess counters (counters_in k) → AreNear (λ v. is_using (only v) k) 0 sources
        → StandsApart numbers (node mems counters sources b n k)
    node_apart sources b n (load_sram sram dram spans) numbers less own h = if_apart numbers (slice_lanes spans == 1) _ _ tt tt
    node_apart sources b n (load_line line dram spans) numbers less own h = if_apart numbers (slice_lanes spans == 1) _ _ tt tt
    node_apart sources b n (store dram spans sram) numbers less own h = if_apart numbers (slice_lanes spans == 1) _ _ tt tt
    node_apart sources b n (gather sram dram places e) numbers less own h = tt
    node_apart sources b n (scatter dram places e sram) numbers less own h = tt
    node_apart sources b n (block style body) numbers less own h =
        let near = plain_near sources (λ is. are_using is body) body (λ v u. u) h in
        body_apart sources n [] (style_of mems counters style body) body no_more nothing _ numbers tt
        (stages_apart (no_run sources) n body no_more nothing numbers less own tt near (later_of sources body no_more near))
    node_apart sources b n (foreach style loops body) numbers less own h =
        let near = plain_near sources (λ is. counters_use is loops || are_using is body) body (λ v u. or_right (counters_use (only v) loops) (are_using (only v) body) u) h in
        let inside_less = less_append counters (numbers_of (counters_of mems sources b loops)) numbers (counters_less mems sources counters b loops (less_front counters (counter_numbers loops) (counters_declared body) own)) less in
        body_apart sources n (counters_of mems sources b loops) style body no_more nothing _ numbers tt
        (stages_apart (no_run sources) n body no_more nothing (numbers_of (counters_of mems sources b loops) ++ numbers) inside_less (less_back counters (counter_numbers loops) (counters_declared body) own) tt near (later_of sources body no_more near))
    node_apart sources b n (reduce style fold acc loops body e comb) numbers less own h =
        let begun : ℕ = b + length (registers_for is_early (bounds_of loops)) in
        let near = body_near sources body loops e h in
        let inside_less = less_append counters (numbers_of (counters_of mems sources b loops)) numbers (counters_less mems sources counters b loops (less_front counters (counter_numbers loops) (counters_declared body) own)) less in
        body_apart sources n (counters_of mems sources b loops) style body (ending_of loops e) (combines mems fold acc begun comb e) _ numbers (word_near sources body loops fold acc begun comb e h)
        (stages_apart (no_run sources) n body (ending_of loops e) (combines mems fold acc begun comb e) (numbers_of (counters_of mems sources b loops) ++ numbers) inside_less (less_back counters (counter_numbers loops) (counters_declared body) own)
        (end_well loops fold acc begun comb e) near (later_of sources body (ending_of loops e) near))
    node_apart sources b n (mem_reduce style acc loops body part comb) numbers less own h =
        let begun : ℕ = b + length (registers_for is_early (bounds_of loops)) in
        let near = plain_near sources (λ is. counters_use is loops || are_using is body) body (λ v u. or_right (counters_use (only v) loops) (are_using (only v) body) u) h in
        let inside_less = less_append counters (numbers_of (counters_of mems sources b loops)) numbers (counters_less mems sources counters b loops (less_front counters (counter_numbers loops) (counters_declared body) own)) less in
        stages_apart (no_run sources) n body no_more (reduces_elements part (mem_number mems acc) begun comb) (numbers_of (counters_of mems sources b loops) ++ numbers) inside_less (less_back counters (counter_numbers loops) (counters_declared body) own) tt near (later_of sources body no_more near)
    node_apart sources b n (fsm start tested test state body last next) numbers less own h =
        let kept : Sources = with_state sources tested state last n in
        let near = plain_near kept (λ is. ((uses is start || uses is test) || are_using is body) || uses is next) body
        (λ v u. or_left ((uses (only v) start || uses (only v) test) || are_using (only v) body) (uses (only v) next) (or_right (uses (only v) start || uses (only v) test) (are_using (only v) body) u)) (state_near sources tested state last n _ h) in
        body_apart kept (suc n) [] Pipe body no_more nothing _ numbers tt
        (stages_apart (no_run kept) (suc n) body no_more nothing numbers less own tt near (later_of kept body no_more near))
    node_apart sources b n (branch test first second) numbers less own h =
        let m : ℕ = n + length (registers_in first no_more) in
        let near_first = plain_near sources (λ is. (uses is test || are_using is first) || are_using is second) first
        (λ v u. or_left (uses (only v) test || are_using (only v) first) (are_using (only v) second) (or_right (uses (only v) test) (are_using (only v) first) u)) h in
        let near_second = plain_near sources (λ is. (uses is test || are_using is first) || are_using is second) second (λ v u. or_right (uses (only v) test || are_using (only v) first) (are_using (only v) second) u) h in (
          body_apart sources n [] Pipe first no_more nothing _ numbers tt
              (stages_apart (no_run sources) n first no_more nothing numbers less (less_front counters (counters_declared first) (counters_declared second) own) tt near_first (later_of sources first no_more near_first)),
          body_apart sources m [] Pipe second no_more nothing _ numbers tt
              (stages_apart (no_run sources) m second no_more nothing numbers less (less_back counters (counters_declared first) (counters_declared second) own) tt near_second (later_of sources second no_more near_second)),
        )
    node_apart sources b n (declare m) numbers less own h = tt
    node_apart sources b n (name v x) numbers less own h = tt
    node_apart sources b n (set_reg m x) numbers less own h = tt
    node_apart sources b n (set_out m x) numbers less own h = tt
    node_apart sources b n (set_sram m xs x) numbers less own h = tt
    node_apart sources b n (enq m x) numbers less own h = tt

pub program_apart : (p : PlainProgram) → IsProgram p → StandsApart [] (core_of p).root
unfolding core_of
program_apart p h =
    let n : ℕ = length (written_mems p.mems) in
    let own = subst (AllLess (length p.counters)) (sym h.counter_numbers) (below_less (length p.counters)) in
    body_apart p.mems (length p.counters) no_sources n [] Pipe p.body no_more nothing _ [] tt
    (stages_apart p.mems (length p.counters) (no_run no_sources) n p.body no_more nothing [] tt own tt (λ v u. tt) (λ v u. tt))
