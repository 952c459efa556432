-- Lanes and combinations of the core of a program stand where they may.
use Rattle.std.proofs.Common.{◌≡◌, ℕ, zero, suc, ◌+◌, ◌<◌, ◌≤◌, ◌==◌, Bool, true, false, not, cond, List, [], ◌∷◌, ◌++◌, length, refl, sym, ◌∙◌, ap, subst, arith, if◌then◌else◌, inl, inr}
use Rattle.std.specs.Prelude.{Contains, IsTrue}
use Rattle.sp_words.specs.declared.kind.Kind.{Kind}
use Rattle.sp_tree.specs.Meaning.{is_dram}
use Rattle.sp_words.specs.declared.kind.Kind.TheVariants.{Reg, Sram}
use Rattle.sp_words.specs.declared.kind.Style.{Style}
use Rattle.sp_words.specs.declared.kind.Style.TheVariants.{Pipe}
use Rattle.sp_words.specs.declared.types.Ty.{Ty}
use Rattle.sp_tree.specs.declared.statement.Comb.{Comb}
use Rattle.sp_tree.specs.Expressions.{mem}
use Rattle.sp_tree.specs.Footprint.{Names, BodyNames}
use Rattle.sp_tree.specs.PlainExpression.{PlainExpr, type_of}
use Rattle.sp_tree.specs.PlainProgram.{PlainProgram}
use Rattle.sp_tree.specs.PlainStatement as tree
use Rattle.sp_tree.specs.PlainStatement.{PlainSpan, single, range, PlainStmtKind, PlainStmts, stmt, declare, name, set_reg, set_out, set_sram, enq, load_sram, load_line, store, gather, scatter, block, foreach, reduce, mem_reduce, fsm, branch, no_stmt, more_stmt}
use Rattle.sp_tree.specs.Structure.{mems_declared, mems_in, own_mems, is_inner, slice_lanes}
use Rattle.sp_tree.specs.Typing.{Scope, BodyTyped, StmtTyped, after, after_all, with_counters, with_val}
use Rattle.sp_core.specs.Declarations.{dram_number as dram_place}
use Rattle.sp_core.specs.PlainCore as core_tree
use Rattle.sp_core.specs.PlainCore.{PlainOp, PlainCounter, PlainNode, PlainStages, PlainCore, no_stage, more_stage}
use Rattle.sp_sugar.specs.Early.{bounds_of, is_early, registers_for, after as after_word, counters_of, stage_of, early_stages}
use Rattle.sp_sugar.specs.Numbers.{mem_number}
use Rattle.sp_sugar.specs.Operations.{alone, read_op, write_op}
use Rattle.sp_sugar.specs.Registers.{ending_of, beside, inside, registers, registers_in}
use Rattle.sp_sugar.specs.Runs.{Run, no_run, next_code, with_stmt, inner_run}
use Rattle.sp_sugar.specs.Stages.{run_stage, first_of, Combines, nothing, folds, reduces, reduces_elements, combination_stage, inner_node, last_stages, style_of, outer_node, body_node, stages, node}
use Rattle.sp_sugar.specs.Uses.{Ending, no_more, in_last_run, in_combination}
use Rattle.sp_sugar.specs.Values.{Sources, no_sources, in_register, with_state}
use Rattle.sp_sugar.proofs.Entering.{own_declared}
use Rattle.sp_lane_cores.proofs.LanedNaming.{SourceHas, SourcesHave, ValuesHave, RegisterHas, changed_have, Test, InRange, Declared, declared_front, declared_back, range_after, is_chip, names_pass, IsPassed, RunPasses, next_passes, inner_passes}
use Rattle.std.proofs.lemmas.Bool.{and_from, not-true, eq-eqb, ne_eqb, false≢true}
use Rattle.std.specs.Prelude.{◌&&◌}
use Rattle.sp_tree.specs.Invariant.{IsProgram, outer_scope}
use Rattle.sp_tree.specs.Typing.{LanesAtEnd, IsMem}
use Rattle.sp_sugar.specs.Core.{core_of}
use Rattle.sp_sugar.specs.Numbers.{begun_register, is_off_dram, written_mems}
use Rattle.sp_sugar.specs.Values.{Source, at_place, constant, count}
use Rattle.sp_sugar.proofs.Cores.{contains_count, port_is}
use Rattle.sp_sugar.proofs.NodeSteps.{ending_is}
use Rattle.sp_sugar.proofs.NumberLemmas.{number_below, numbers_apart}
use Rattle.sp_sugar.proofs.Owners.{declared_is, off_dram}
use Rattle.std.proofs.lemmas.List.{length-append}
use Rattle.sp_lane_cores.specs.LanedMarks.{LanesAtLast, folded, reduced, NoneCombines, IsLaned, AreLaned}
use Rattle.sp_lane_cores.proofs.LanedEarlier.{run_good, early_good}
use Rattle.sp_lane_cores.proofs.LanedEnding.{Ended, Own, combined_by_fold, combined_by_reduce, stages_end}
use Rattle.sp_lane_cores.proofs.LanedNaming.{stmt_have}
use Rattle.sp_lane_cores.proofs.LanedParting.{range_loops, range_all, Regs}
use Rattle.sp_lane_cores.proofs.LanedPassing.{EndPasses, ending_passes, begins}

differs : (a b : ℕ) → (a ≡ b → ⊥) → not (a == b) ≡ true
differs a b h = ap not (ne_eqb a b h)

differ : (a b : ℕ) → not (a == b) ≡ true → a ≡ b → ⊥
differ a b h e = false≢true (sym (not-true (a == b) h) ∙ eq-eqb a b e)

source_weaken : (P Q : ℕ → Type 0) → ((r : ℕ) → P r → Q r) → (x : Source) → SourceHas P x → SourceHas Q x
source_weaken P Q f (at_place k) h = tt
source_weaken P Q f (in_register r) h = f r h
source_weaken P Q f (constant w) h = tt
source_weaken P Q f (count c) h = tt

weaken : (P Q : ℕ → Type 0) → ((r : ℕ) → P r → Q r) → (sources : Sources) → SourcesHave P sources → SourcesHave Q sources
weaken P Q f sources h v = source_weaken P Q f (sources v) (h v)

-- what a body declares itself is named in it
own_ok : (ok : ℕ → Bool) (body : PlainStmts) (part : ℕ) → BodyNames ok body → Contains (own_mems body) part → IsTrue (ok part)
own_ok ok no_stmt part o c = absurd (omega (arith, c.1))
own_ok ok (more_stmt (stmt place (declare m)) rest) part o (zero, lt, e) = subst (λ x. IsTrue (ok x)) e o.0
own_ok ok (more_stmt (stmt place (declare m)) rest) part o (suc j, lt, e) = own_ok ok rest part o.1 (j, omega arith, e)
own_ok ok (more_stmt (stmt place k) rest) part o c = own_ok ok rest part o.1 c

-- one number later
begun_before : (b n : ℕ) (early : List core_tree.PlainMem) (x : core_tree.PlainMem) → b + length (early ++ x ∷ []) ≤ n → suc (b + length early) ≤ n
begun_before b n early x h = omega (arith, h, length-append early (x ∷ []))

fits_after_in : (n most : ℕ) (xs ys zs : List core_tree.PlainMem) → n + length (xs ++ ys ++ zs) ≤ most → n + length xs + length ys + length zs ≤ most
fits_after_in n most xs ys zs h = omega (arith, h, length-append (xs ++ ys) zs, length-append xs ys)

module _ (p : PlainProgram) (counters : ℕ) (core : PlainCore) (wide : length (written_mems p.mems) ≤ length core.mems) where
  -- a register of those before a number
  abbrev Low : ℕ → ℕ → Type 0
  Low n r = (length (written_mems p.mems) ≤ r) × (r < n)

  fits_after : (n : ℕ) (xs ys zs : List core_tree.PlainMem) → n + length (xs ++ ys ++ zs) ≤ length core.mems → n + length xs + length ys + length zs ≤ length core.mems
  fits_after n xs ys zs h = fits_after_in n (length core.mems) xs ys zs h

  first_low : (n : ℕ) (l : List core_tree.PlainMem) → length (written_mems p.mems) ≤ n → RegisterHas (Low (n + length l)) (first_of n l)
  first_low n [] le = tt
  first_low n (m ∷ ms) le = (le, omega arith)

  low_more : (n k : ℕ) → n ≤ k → (sources : Sources) → SourcesHave (Low n) sources → SourcesHave (Low k) sources
  low_more n k le sources h = weaken (Low n) (Low k) (λ r l. let b = l.0 in let a = l.1 in (b, omega (arith, a, le))) sources h

  module _ (acc : ℕ) (lt : acc < length p.mems) (off : is_off_dram (mem p.mems acc) ≡ true) where
    below : mem_number p.mems acc < length (written_mems p.mems)
    below = number_below p.mems acc lt off

    chips_apart : (m : ℕ) → not (m == acc) ≡ true → m < length p.mems → is_off_dram (mem p.mems m) ≡ true → not (mem_number p.mems m == mem_number p.mems acc) ≡ true
    chips_apart m h l o = differs (mem_number p.mems m) (mem_number p.mems acc) (λ e. differ m acc h (numbers_apart p.mems m acc l lt o off e))

    drams_apart : (r : ℕ) → not (dram_place core r == mem_number p.mems acc) ≡ true
    drams_apart r = differs (dram_place core r) (mem_number p.mems acc) (λ e. absurd (omega (arith, e, wide, below)))

    -- all but the accumulator of a fold
    abbrev fold_test : Test p core
    fold_test = record { ok = λ m. not (m == acc); is = λ k. not (k == mem_number p.mems acc); chips = chips_apart; drams = drams_apart }

    above : (r : ℕ) → length (written_mems p.mems) ≤ r → not (r == mem_number p.mems acc) ≡ true
    above r le = differs r (mem_number p.mems acc) (λ e. absurd (omega (arith, e, le, below)))

    module _ (begun : ℕ) (later : length (written_mems p.mems) ≤ begun) (there : begun < length core.mems) where
      -- and of a reduction, and what tells whether that holds a word
      abbrev reduce_test : Test p core
      reduce_test = record {
        ok = λ m. not (m == acc);
        is = λ k. not (k == mem_number p.mems acc) && not (k == begun);
        chips = λ m h l o. and_from (not (mem_number p.mems m == mem_number p.mems acc)) (not (mem_number p.mems m == begun)) (chips_apart m h l o) (differs (mem_number p.mems m) begun (λ e. let b : mem_number p.mems m < length (written_mems p.mems) = number_below p.mems m l o in absurd (omega (arith, e, b, later))));
        drams = λ r. and_from (not (dram_place core r == mem_number p.mems acc)) (not (dram_place core r == begun)) (drams_apart r) (differs (dram_place core r) begun (λ e. absurd (omega (arith, e, there))));
      }

      both : (r : ℕ) → length (written_mems p.mems) ≤ r → (r ≡ begun → ⊥) → (not (r == mem_number p.mems acc) && not (r == begun)) ≡ true
      both r le ne = and_from (not (r == mem_number p.mems acc)) (not (r == begun)) (above r le) (differs r begun ne)

  good_laned : (ops : List PlainOp) (rest : PlainStages) → AreLaned core rest → AreLaned core (stage_of ops rest)
  good_laned ops rest h = ((tt, tt), h)

  run_laned : (ops : List PlainOp) (rest : PlainStages) → AreLaned core rest → AreLaned core (run_stage ops rest)
  run_laned ops rest h = run_good (λ xs. AreLaned core xs) good_laned ops rest h

  last_laned : (run : Run) (n : ℕ) (ending : Ending) (c : Combines) → AreLaned core (last_stages p.mems counters run n ending c)
  last_laned run n no_more nothing = run_laned run.ops _ tt
  last_laned run n no_more (folds acc comb e) = run_laned run.ops _ tt
  last_laned run n no_more (reduces acc begun comb e) = run_laned run.ops _ tt
  last_laned run n no_more (reduces_elements part acc begun comb) = run_laned run.ops _ tt
  last_laned run n (in_combination x) nothing = run_laned run.ops _ tt
  last_laned run n (in_combination x) (folds acc comb e) = run_laned run.ops _ tt
  last_laned run n (in_combination x) (reduces acc begun comb e) = run_laned run.ops _ tt
  last_laned run n (in_combination x) (reduces_elements part acc begun comb) = run_laned run.ops _ tt
  last_laned run n (in_last_run x) nothing = run_laned (run.ops ++ (next_code p.mems run x).ops ++ write_op (type_of x) n ((next_code p.mems run x).word ∷ []) ∷ []) (combination_stage p.mems counters (alone 0 (read_op (type_of x) n [])) nothing) tt
  last_laned run n (in_last_run x) (folds acc comb e) = run_laned (run.ops ++ (next_code p.mems run x).ops ++ write_op (type_of x) n ((next_code p.mems run x).word ∷ []) ∷ []) (combination_stage p.mems counters (alone 0 (read_op (type_of x) n [])) (folds acc comb e)) tt
  last_laned run n (in_last_run x) (reduces acc begun comb e) = run_laned (run.ops ++ (next_code p.mems run x).ops ++ write_op (type_of x) n ((next_code p.mems run x).word ∷ []) ∷ []) (combination_stage p.mems counters (alone 0 (read_op (type_of x) n [])) (reduces acc begun comb e)) tt
  last_laned run n (in_last_run x) (reduces_elements part acc begun comb) = run_laned run.ops _ tt

  mutual
    unfolding stages

    -- where nothing is combined
    stages_none : (run : Run) (n : ℕ) (body : PlainStmts) → NoneCombines core (stages p.mems counters run n body no_more nothing)
    stages_none run n no_stmt = run_good (λ xs. NoneCombines core xs) (λ ops rest h. h) run.ops no_stage tt
    stages_none run n (more_stmt (stmt place (declare m)) rest) = stages_none (with_stmt p.mems false (first_of n (beside (declare m) rest no_more)) run (declare m)) (n + length (beside (declare m) rest no_more)) rest
    stages_none run n (more_stmt (stmt place (name v x)) rest) = stages_none (with_stmt p.mems false (first_of n (beside (name v x) rest no_more)) run (name v x)) (n + length (beside (name v x) rest no_more)) rest
    stages_none run n (more_stmt (stmt place (set_reg m x)) rest) = stages_none (with_stmt p.mems false (first_of n (beside (set_reg m x) rest no_more)) run (set_reg m x)) (n + length (beside (set_reg m x) rest no_more)) rest
    stages_none run n (more_stmt (stmt place (set_out m x)) rest) = stages_none (with_stmt p.mems false (first_of n (beside (set_out m x) rest no_more)) run (set_out m x)) (n + length (beside (set_out m x) rest no_more)) rest
    stages_none run n (more_stmt (stmt place (set_sram m xs x)) rest) = stages_none (with_stmt p.mems false (first_of n (beside (set_sram m xs x) rest no_more)) run (set_sram m xs x)) (n + length (beside (set_sram m xs x) rest no_more)) rest
    stages_none run n (more_stmt (stmt place (enq m x)) rest) = stages_none (with_stmt p.mems false (first_of n (beside (enq m x) rest no_more)) run (enq m x)) (n + length (beside (enq m x) rest no_more)) rest
    stages_none run n (more_stmt (stmt place (load_sram sram dram spans)) rest) =
        run_good (λ xs. NoneCombines core xs) (λ ops xs h. h) run.ops (early_stages p.mems run.values.elsewhere n (load_sram sram dram spans) (more_stage 0 0 false (node p.mems counters run.values.elsewhere n (n + length (beside (load_sram sram dram spans) rest no_more)) (load_sram sram dram spans)) (stages p.mems counters (no_run run.values.elsewhere) (n + length (beside (load_sram sram dram spans) rest no_more) + length (inside (load_sram sram dram spans))) rest no_more nothing)))
        (early_good (λ xs. NoneCombines core xs) (λ ops xs h. h) p.mems run.values.elsewhere n (load_sram sram dram spans) (more_stage 0 0 false (node p.mems counters run.values.elsewhere n (n + length (beside (load_sram sram dram spans) rest no_more)) (load_sram sram dram spans)) (stages p.mems counters (no_run run.values.elsewhere) (n + length (beside (load_sram sram dram spans) rest no_more) + length (inside (load_sram sram dram spans))) rest no_more nothing)) (stages_none (no_run run.values.elsewhere) (n + length (beside (load_sram sram dram spans) rest no_more) + length (inside (load_sram sram dram spans))) rest))
    stages_none run n (more_stmt (stmt place (load_line line dram spans)) rest) =
        run_good (λ xs. NoneCombines core xs) (λ ops xs h. h) run.ops (early_stages p.mems run.values.elsewhere n (load_line line dram spans) (more_stage 0 0 false (node p.mems counters run.values.elsewhere n (n + length (beside (load_line line dram spans) rest no_more)) (load_line line dram spans)) (stages p.mems counters (no_run run.values.elsewhere) (n + length (beside (load_line line dram spans) rest no_more) + length (inside (load_line line dram spans))) rest no_more nothing)))
        (early_good (λ xs. NoneCombines core xs) (λ ops xs h. h) p.mems run.values.elsewhere n (load_line line dram spans) (more_stage 0 0 false (node p.mems counters run.values.elsewhere n (n + length (beside (load_line line dram spans) rest no_more)) (load_line line dram spans)) (stages p.mems counters (no_run run.values.elsewhere) (n + length (beside (load_line line dram spans) rest no_more) + length (inside (load_line line dram spans))) rest no_more nothing)) (stages_none (no_run run.values.elsewhere) (n + length (beside (load_line line dram spans) rest no_more) + length (inside (load_line line dram spans))) rest))
    stages_none run n (more_stmt (stmt place (store dram spans sram)) rest) =
        run_good (λ xs. NoneCombines core xs) (λ ops xs h. h) run.ops (early_stages p.mems run.values.elsewhere n (store dram spans sram) (more_stage 0 0 false (node p.mems counters run.values.elsewhere n (n + length (beside (store dram spans sram) rest no_more)) (store dram spans sram)) (stages p.mems counters (no_run run.values.elsewhere) (n + length (beside (store dram spans sram) rest no_more) + length (inside (store dram spans sram))) rest no_more nothing)))
        (early_good (λ xs. NoneCombines core xs) (λ ops xs h. h) p.mems run.values.elsewhere n (store dram spans sram) (more_stage 0 0 false (node p.mems counters run.values.elsewhere n (n + length (beside (store dram spans sram) rest no_more)) (store dram spans sram)) (stages p.mems counters (no_run run.values.elsewhere) (n + length (beside (store dram spans sram) rest no_more) + length (inside (store dram spans sram))) rest no_more nothing)) (stages_none (no_run run.values.elsewhere) (n + length (beside (store dram spans sram) rest no_more) + length (inside (store dram spans sram))) rest))
    stages_none run n (more_stmt (stmt place (gather sram dram places e)) rest) =
        run_good (λ xs. NoneCombines core xs) (λ ops xs h. h) run.ops (early_stages p.mems run.values.elsewhere n (gather sram dram places e) (more_stage 0 0 false (node p.mems counters run.values.elsewhere n (n + length (beside (gather sram dram places e) rest no_more)) (gather sram dram places e)) (stages p.mems counters (no_run run.values.elsewhere) (n + length (beside (gather sram dram places e) rest no_more) + length (inside (gather sram dram places e))) rest no_more nothing)))
        (early_good (λ xs. NoneCombines core xs) (λ ops xs h. h) p.mems run.values.elsewhere n (gather sram dram places e) (more_stage 0 0 false (node p.mems counters run.values.elsewhere n (n + length (beside (gather sram dram places e) rest no_more)) (gather sram dram places e)) (stages p.mems counters (no_run run.values.elsewhere) (n + length (beside (gather sram dram places e) rest no_more) + length (inside (gather sram dram places e))) rest no_more nothing)) (stages_none (no_run run.values.elsewhere) (n + length (beside (gather sram dram places e) rest no_more) + length (inside (gather sram dram places e))) rest))
    stages_none run n (more_stmt (stmt place (scatter dram places e sram)) rest) =
        run_good (λ xs. NoneCombines core xs) (λ ops xs h. h) run.ops (early_stages p.mems run.values.elsewhere n (scatter dram places e sram) (more_stage 0 0 false (node p.mems counters run.values.elsewhere n (n + length (beside (scatter dram places e sram) rest no_more)) (scatter dram places e sram)) (stages p.mems counters (no_run run.values.elsewhere) (n + length (beside (scatter dram places e sram) rest no_more) + length (inside (scatter dram places e sram))) rest no_more nothing)))
        (early_good (λ xs. NoneCombines core xs) (λ ops xs h. h) p.mems run.values.elsewhere n (scatter dram places e sram) (more_stage 0 0 false (node p.mems counters run.values.elsewhere n (n + length (beside (scatter dram places e sram) rest no_more)) (scatter dram places e sram)) (stages p.mems counters (no_run run.values.elsewhere) (n + length (beside (scatter dram places e sram) rest no_more) + length (inside (scatter dram places e sram))) rest no_more nothing)) (stages_none (no_run run.values.elsewhere) (n + length (beside (scatter dram places e sram) rest no_more) + length (inside (scatter dram places e sram))) rest))
    stages_none run n (more_stmt (stmt place (block style body)) rest) =
        run_good (λ xs. NoneCombines core xs) (λ ops xs h. h) run.ops (early_stages p.mems run.values.elsewhere n (block style body) (more_stage 0 0 false (node p.mems counters run.values.elsewhere n (n + length (beside (block style body) rest no_more)) (block style body)) (stages p.mems counters (no_run run.values.elsewhere) (n + length (beside (block style body) rest no_more) + length (inside (block style body))) rest no_more nothing)))
        (early_good (λ xs. NoneCombines core xs) (λ ops xs h. h) p.mems run.values.elsewhere n (block style body) (more_stage 0 0 false (node p.mems counters run.values.elsewhere n (n + length (beside (block style body) rest no_more)) (block style body)) (stages p.mems counters (no_run run.values.elsewhere) (n + length (beside (block style body) rest no_more) + length (inside (block style body))) rest no_more nothing)) (stages_none (no_run run.values.elsewhere) (n + length (beside (block style body) rest no_more) + length (inside (block style body))) rest))
    stages_none run n (more_stmt (stmt place (foreach style loops body)) rest) =
        run_good (λ xs. NoneCombines core xs) (λ ops xs h. h) run.ops (early_stages p.mems run.values.elsewhere n (foreach style loops body) (more_stage 0 0 false (node p.mems counters run.values.elsewhere n (n + length (beside (foreach style loops body) rest no_more)) (foreach style loops body)) (stages p.mems counters (no_run run.values.elsewhere) (n + length (beside (foreach style loops body) rest no_more) + length (inside (foreach style loops body))) rest no_more nothing)))
        (early_good (λ xs. NoneCombines core xs) (λ ops xs h. h) p.mems run.values.elsewhere n (foreach style loops body) (more_stage 0 0 false (node p.mems counters run.values.elsewhere n (n + length (beside (foreach style loops body) rest no_more)) (foreach style loops body)) (stages p.mems counters (no_run run.values.elsewhere) (n + length (beside (foreach style loops body) rest no_more) + length (inside (foreach style loops body))) rest no_more nothing)) (stages_none (no_run run.values.elsewhere) (n + length (beside (foreach style loops body) rest no_more) + length (inside (foreach style loops body))) rest))
    stages_none run n (more_stmt (stmt place (reduce style fold acc loops body e comb)) rest) =
        run_good (λ xs. NoneCombines core xs) (λ ops xs h. h) run.ops (early_stages p.mems run.values.elsewhere n (reduce style fold acc loops body e comb) (more_stage 0 0 false (node p.mems counters run.values.elsewhere n (n + length (beside (reduce style fold acc loops body e comb) rest no_more)) (reduce style fold acc loops body e comb)) (stages p.mems counters (no_run run.values.elsewhere) (n + length (beside (reduce style fold acc loops body e comb) rest no_more) + length (inside (reduce style fold acc loops body e comb))) rest no_more nothing)))
        (early_good (λ xs. NoneCombines core xs) (λ ops xs h. h) p.mems run.values.elsewhere n (reduce style fold acc loops body e comb) (more_stage 0 0 false (node p.mems counters run.values.elsewhere n (n + length (beside (reduce style fold acc loops body e comb) rest no_more)) (reduce style fold acc loops body e comb)) (stages p.mems counters (no_run run.values.elsewhere) (n + length (beside (reduce style fold acc loops body e comb) rest no_more) + length (inside (reduce style fold acc loops body e comb))) rest no_more nothing)) (stages_none (no_run run.values.elsewhere) (n + length (beside (reduce style fold acc loops body e comb) rest no_more) + length (inside (reduce style fold acc loops body e comb))) rest))
    stages_none run n (more_stmt (stmt place (mem_reduce style acc loops body part comb)) rest) =
        run_good (λ xs. NoneCombines core xs) (λ ops xs h. h) run.ops (early_stages p.mems run.values.elsewhere n (mem_reduce style acc loops body part comb) (more_stage 0 0 false (node p.mems counters run.values.elsewhere n (n + length (beside (mem_reduce style acc loops body part comb) rest no_more)) (mem_reduce style acc loops body part comb)) (stages p.mems counters (no_run run.values.elsewhere) (n + length (beside (mem_reduce style acc loops body part comb) rest no_more) + length (inside (mem_reduce style acc loops body part comb))) rest no_more nothing)))
        (early_good (λ xs. NoneCombines core xs) (λ ops xs h. h) p.mems run.values.elsewhere n (mem_reduce style acc loops body part comb) (more_stage 0 0 false (node p.mems counters run.values.elsewhere n (n + length (beside (mem_reduce style acc loops body part comb) rest no_more)) (mem_reduce style acc loops body part comb)) (stages p.mems counters (no_run run.values.elsewhere) (n + length (beside (mem_reduce style acc loops body part comb) rest no_more) + length (inside (mem_reduce style acc loops body part comb))) rest no_more nothing)) (stages_none (no_run run.values.elsewhere) (n + length (beside (mem_reduce style acc loops body part comb) rest no_more) + length (inside (mem_reduce style acc loops body part comb))) rest))
    stages_none run n (more_stmt (stmt place (fsm start tested test state body last next)) rest) =
        run_good (λ xs. NoneCombines core xs) (λ ops xs h. h) run.ops (early_stages p.mems run.values.elsewhere n (fsm start tested test state body last next) (more_stage 0 0 false (node p.mems counters run.values.elsewhere n (n + length (beside (fsm start tested test state body last next) rest no_more)) (fsm start tested test state body last next)) (stages p.mems counters (no_run run.values.elsewhere) (n + length (beside (fsm start tested test state body last next) rest no_more) + length (inside (fsm start tested test state body last next))) rest no_more nothing)))
        (early_good (λ xs. NoneCombines core xs) (λ ops xs h. h) p.mems run.values.elsewhere n (fsm start tested test state body last next) (more_stage 0 0 false (node p.mems counters run.values.elsewhere n (n + length (beside (fsm start tested test state body last next) rest no_more)) (fsm start tested test state body last next)) (stages p.mems counters (no_run run.values.elsewhere) (n + length (beside (fsm start tested test state body last next) rest no_more) + length (inside (fsm start tested test state body last next))) rest no_more nothing)) (stages_none (no_run run.values.elsewhere) (n + length (beside (fsm start tested test state body last next) rest no_more) + length (inside (fsm start tested test state body last next))) rest))
    stages_none run n (more_stmt (stmt place (branch test first second)) rest) =
        run_good (λ xs. NoneCombines core xs) (λ ops xs h. h) run.ops (early_stages p.mems run.values.elsewhere n (branch test first second) (more_stage 0 0 false (node p.mems counters run.values.elsewhere n (n + length (beside (branch test first second) rest no_more)) (branch test first second)) (stages p.mems counters (no_run run.values.elsewhere) (n + length (beside (branch test first second) rest no_more) + length (inside (branch test first second))) rest no_more nothing)))
        (early_good (λ xs. NoneCombines core xs) (λ ops xs h. h) p.mems run.values.elsewhere n (branch test first second) (more_stage 0 0 false (node p.mems counters run.values.elsewhere n (n + length (beside (branch test first second) rest no_more)) (branch test first second)) (stages p.mems counters (no_run run.values.elsewhere) (n + length (beside (branch test first second) rest no_more) + length (inside (branch test first second))) rest no_more nothing)) (stages_none (no_run run.values.elsewhere) (n + length (beside (branch test first second) rest no_more) + length (inside (branch test first second))) rest))

  either_laned : (b : Bool) (x y : PlainNode) → IsLaned core x → IsLaned core y → IsLaned core (cond b x y)
  either_laned true x y h k = h
  either_laned false x y h k = k

  loops_laned : (sources : Sources) (r : ℕ) (loops : List tree.PlainCounter) → LanesAtEnd p loops → LanesAtLast (counters_of p.mems sources r loops)
  loops_laned sources r [] h = tt
  loops_laned sources r (c ∷ []) h = tt
  loops_laned sources r (c ∷ next ∷ rest) h = (h.0, loops_laned sources (after_word is_early (after_word is_early r c.from) c.until) (next ∷ rest) h.1)

  -- a body that isn't an inner one has its registers
  outer_fits : (n : ℕ) (body : PlainStmts) (l : List core_tree.PlainMem) → n + length (if is_inner body then [] else l) ≤ length core.mems → is_inner body ≡ false → n + length l ≤ length core.mems
  outer_fits n body l h e = subst (λ b. n + length (if b then [] else l) ≤ length core.mems) e h

  by_form : {P : Type 0} (b : Bool) → (b ≡ true → P) → (b ≡ false → P) → P
  by_form true f g = f refl
  by_form false f g = g refl

  -- a body without a combination
  plain_laned : (sources : Sources) (n : ℕ) (loops : List PlainCounter) (style : Style) (body : PlainStmts) → LanesAtLast loops → (is_inner body ≡ false → AreLaned core (stages p.mems counters (no_run sources) n body no_more nothing))
      → IsLaned core (body_node p.mems counters sources n loops style body no_more nothing (stages p.mems counters (no_run sources) n body no_more nothing))
  plain_laned sources n loops style body h k = by (is_inner body) k
    where
      all : PlainStages
      all = stages p.mems counters (no_run sources) n body no_more nothing

      by : (b : Bool) → (b ≡ false → AreLaned core all) → IsLaned core (cond b (inner_node p.mems counters sources loops body nothing) (outer_node p.mems counters n loops style body no_more all))
      by true k = (h, tt)
      by false k = (h, inl (stages_none (no_run sources) n body), k refl)

  module _ (t : Test p core) (sources : Sources) (have : SourcesHave (IsPassed p core t) sources) (n : ℕ) (regs : Regs p core t n) (scope : Scope) (ran : InRange p scope) (loops : List PlainCounter) (style : Style) (body : PlainStmts) (d : Declared p (mems_declared body)) (typed : BodyTyped p scope body)
      (o : BodyNames t.ok body) (h : LanesAtLast loops) where
    -- one with a combination
    ended_laned : (ending : Ending) (c : Combines) → EndPasses p counters core t ending → Ended ending c → Own p counters core t c → AreLaned core (stages p.mems counters (no_run sources) n body ending c)
        → IsLaned core (outer_node p.mems counters n loops style body ending (stages p.mems counters (no_run sources) n body ending c))
    ended_laned ending c en ended own k = (h, inr (t.is, stages_end p counters core t scope (no_run sources) n body ending c ran d (begins p counters core t sources have) regs typed o en ended own), k)

    abbrev run_of_body : Run
    run_of_body = inner_run p.mems (no_run sources) body

    run_right : RunPasses p core t (inner_run p.mems (no_run sources) body)
    run_right = inner_passes p core t (no_run sources) scope body ran d (begins p counters core t sources have) typed o

    fold_laned : (ending : Ending) (acc : ℕ) (comb : Comb) (e : PlainExpr) → EndPasses p counters core t ending → Ended ending (folds acc comb e) → Own p counters core t (folds acc comb e) → (is_inner body ≡ false → AreLaned core (stages p.mems counters (no_run sources) n body ending (folds acc comb e)))
        → IsLaned core (body_node p.mems counters sources n loops style body ending (folds acc comb e) (stages p.mems counters (no_run sources) n body ending (folds acc comb e)))
    fold_laned ending acc comb e en ended own k = by (is_inner body) k
      where
        all : PlainStages
        all = stages p.mems counters (no_run sources) n body ending (folds acc comb e)

        by : (b : Bool) → (b ≡ false → AreLaned core all) → IsLaned core (cond b (inner_node p.mems counters sources loops body (folds acc comb e)) (outer_node p.mems counters n loops style body ending all))
        by true k = (h, (folded (next_code p.mems run_of_body e).word acc (type_of e) comb, combined_by_fold p counters core t run_of_body.ops (next_code p.mems run_of_body e) acc comb e run_right.ops (next_passes p core t run_of_body e run_right own.1) own))
        by false k = ended_laned ending (folds acc comb e) en ended own (k refl)

    reduce_laned : (ending : Ending) (acc begun : ℕ) (comb : Comb) (e : PlainExpr) → EndPasses p counters core t ending → Ended ending (reduces acc begun comb e) → Own p counters core t (reduces acc begun comb e) → (is_inner body ≡ false → AreLaned core (stages p.mems counters (no_run sources) n body ending (reduces acc begun comb e)))
        → IsLaned core (body_node p.mems counters sources n loops style body ending (reduces acc begun comb e) (stages p.mems counters (no_run sources) n body ending (reduces acc begun comb e)))
    reduce_laned ending acc begun comb e en ended own k = by (is_inner body) k
      where
        all : PlainStages
        all = stages p.mems counters (no_run sources) n body ending (reduces acc begun comb e)

        by : (b : Bool) → (b ≡ false → AreLaned core all) → IsLaned core (cond b (inner_node p.mems counters sources loops body (reduces acc begun comb e)) (outer_node p.mems counters n loops style body ending all))
        by true k = (h, (reduced (next_code p.mems run_of_body e).word acc begun (type_of e) comb, combined_by_reduce p counters core t run_of_body.ops (next_code p.mems run_of_body e) acc begun comb e run_right.ops (next_passes p core t run_of_body e run_right own.1) own))
        by false k = ended_laned ending (reduces acc begun comb e) en ended own (k refl)

  off_of : (scope : Scope) (m : ℕ) (K : Kind) (ty : Ty) → IsMem p scope m K ty → is_dram K ≡ false → is_off_dram (mem p.mems m) ≡ true
  off_of scope m K ty h e = ap (λ k. not (is_dram k)) h.is_kind ∙ ap not e

  mutual
    unfolding stages node registers inside

    stages_laned : (scope : Scope) (run : Run) (n : ℕ) (body : PlainStmts) (ending : Ending) (c : Combines) → InRange p scope → Declared p (mems_declared body) → length (written_mems p.mems) ≤ n → n + length (registers body ending) ≤ length core.mems → ValuesHave (Low n) run.values → BodyTyped p scope body
        → AreLaned core (stages p.mems counters run n body ending c)
    stages_laned scope run n no_stmt ending c ran d le fits low typed = last_laned run n ending c
    stages_laned scope run n (more_stmt (stmt place (declare m)) rest) ending c ran d le fits low typed =
        let late : ℕ = n + length (beside (declare m) rest ending) in
        stages_laned (after scope (declare m)) (with_stmt p.mems false (first_of n (beside (declare m) rest ending)) run (declare m)) (n + length (beside (declare m) rest ending)) rest ending c (range_after p scope (declare m) ran (declared_front p (mems_in (declare m)) (mems_declared rest) d)) (declared_back p (mems_in (declare m)) (mems_declared rest) d)
        (omega (arith, le)) (omega (arith, fits_after n (beside (declare m) rest ending) [] (registers rest ending) fits))
        (stmt_have (Low late) p.mems false (first_of n (beside (declare m) rest ending)) run (declare m) (low_more n late (omega arith) run.values.here low.0, low_more n late (omega arith) run.values.elsewhere low.1) (first_low n (beside (declare m) rest ending) le)) typed.1
    stages_laned scope run n (more_stmt (stmt place (name v x)) rest) ending c ran d le fits low typed =
        let late : ℕ = n + length (beside (name v x) rest ending) in
        stages_laned (after scope (name v x)) (with_stmt p.mems false (first_of n (beside (name v x) rest ending)) run (name v x)) (n + length (beside (name v x) rest ending)) rest ending c (range_after p scope (name v x) ran (declared_front p (mems_in (name v x)) (mems_declared rest) d)) (declared_back p (mems_in (name v x)) (mems_declared rest) d)
        (omega (arith, le)) (omega (arith, fits_after n (beside (name v x) rest ending) [] (registers rest ending) fits))
        (stmt_have (Low late) p.mems false (first_of n (beside (name v x) rest ending)) run (name v x) (low_more n late (omega arith) run.values.here low.0, low_more n late (omega arith) run.values.elsewhere low.1) (first_low n (beside (name v x) rest ending) le)) typed.1
    stages_laned scope run n (more_stmt (stmt place (set_reg m x)) rest) ending c ran d le fits low typed =
        let late : ℕ = n + length (beside (set_reg m x) rest ending) in
        stages_laned (after scope (set_reg m x)) (with_stmt p.mems false (first_of n (beside (set_reg m x) rest ending)) run (set_reg m x)) (n + length (beside (set_reg m x) rest ending)) rest ending c (range_after p scope (set_reg m x) ran (declared_front p (mems_in (set_reg m x)) (mems_declared rest) d)) (declared_back p (mems_in (set_reg m x)) (mems_declared rest) d)
        (omega (arith, le)) (omega (arith, fits_after n (beside (set_reg m x) rest ending) [] (registers rest ending) fits))
        (stmt_have (Low late) p.mems false (first_of n (beside (set_reg m x) rest ending)) run (set_reg m x) (low_more n late (omega arith) run.values.here low.0, low_more n late (omega arith) run.values.elsewhere low.1) (first_low n (beside (set_reg m x) rest ending) le)) typed.1
    stages_laned scope run n (more_stmt (stmt place (set_out m x)) rest) ending c ran d le fits low typed =
        let late : ℕ = n + length (beside (set_out m x) rest ending) in
        stages_laned (after scope (set_out m x)) (with_stmt p.mems false (first_of n (beside (set_out m x) rest ending)) run (set_out m x)) (n + length (beside (set_out m x) rest ending)) rest ending c (range_after p scope (set_out m x) ran (declared_front p (mems_in (set_out m x)) (mems_declared rest) d)) (declared_back p (mems_in (set_out m x)) (mems_declared rest) d)
        (omega (arith, le)) (omega (arith, fits_after n (beside (set_out m x) rest ending) [] (registers rest ending) fits))
        (stmt_have (Low late) p.mems false (first_of n (beside (set_out m x) rest ending)) run (set_out m x) (low_more n late (omega arith) run.values.here low.0, low_more n late (omega arith) run.values.elsewhere low.1) (first_low n (beside (set_out m x) rest ending) le)) typed.1
    stages_laned scope run n (more_stmt (stmt place (set_sram m xs x)) rest) ending c ran d le fits low typed =
        let late : ℕ = n + length (beside (set_sram m xs x) rest ending) in
        stages_laned (after scope (set_sram m xs x)) (with_stmt p.mems false (first_of n (beside (set_sram m xs x) rest ending)) run (set_sram m xs x)) (n + length (beside (set_sram m xs x) rest ending)) rest ending c (range_after p scope (set_sram m xs x) ran (declared_front p (mems_in (set_sram m xs x)) (mems_declared rest) d)) (declared_back p (mems_in (set_sram m xs x)) (mems_declared rest) d)
        (omega (arith, le)) (omega (arith, fits_after n (beside (set_sram m xs x) rest ending) [] (registers rest ending) fits))
        (stmt_have (Low late) p.mems false (first_of n (beside (set_sram m xs x) rest ending)) run (set_sram m xs x) (low_more n late (omega arith) run.values.here low.0, low_more n late (omega arith) run.values.elsewhere low.1) (first_low n (beside (set_sram m xs x) rest ending) le)) typed.1
    stages_laned scope run n (more_stmt (stmt place (enq m x)) rest) ending c ran d le fits low typed =
        let late : ℕ = n + length (beside (enq m x) rest ending) in
        stages_laned (after scope (enq m x)) (with_stmt p.mems false (first_of n (beside (enq m x) rest ending)) run (enq m x)) (n + length (beside (enq m x) rest ending)) rest ending c (range_after p scope (enq m x) ran (declared_front p (mems_in (enq m x)) (mems_declared rest) d)) (declared_back p (mems_in (enq m x)) (mems_declared rest) d)
        (omega (arith, le)) (omega (arith, fits_after n (beside (enq m x) rest ending) [] (registers rest ending) fits))
        (stmt_have (Low late) p.mems false (first_of n (beside (enq m x) rest ending)) run (enq m x) (low_more n late (omega arith) run.values.here low.0, low_more n late (omega arith) run.values.elsewhere low.1) (first_low n (beside (enq m x) rest ending) le)) typed.1
    stages_laned scope run n (more_stmt (stmt place (load_sram sram dram spans)) rest) ending c ran d le fits low typed =
        let b : ℕ = n + length (beside (load_sram sram dram spans) rest ending) in
        let m : ℕ = b + length (inside (load_sram sram dram spans)) in
        let later : SourcesHave (Low m) run.values.elsewhere = low_more n m (omega arith) run.values.elsewhere low.1 in
        let after_fits : m + length (registers rest ending) ≤ length core.mems = fits_after n (beside (load_sram sram dram spans) rest ending) (inside (load_sram sram dram spans)) (registers rest ending) fits in
        run_laned run.ops (early_stages p.mems run.values.elsewhere n (load_sram sram dram spans) (more_stage 0 0 false (node p.mems counters run.values.elsewhere n (n + length (beside (load_sram sram dram spans) rest ending)) (load_sram sram dram spans)) (stages p.mems counters (no_run run.values.elsewhere) (n + length (beside (load_sram sram dram spans) rest ending) + length (inside (load_sram sram dram spans))) rest ending c)))
        (early_good (λ xs. AreLaned core xs) good_laned p.mems run.values.elsewhere n (load_sram sram dram spans) (more_stage 0 0 false (node p.mems counters run.values.elsewhere n (n + length (beside (load_sram sram dram spans) rest ending)) (load_sram sram dram spans)) (stages p.mems counters (no_run run.values.elsewhere) (n + length (beside (load_sram sram dram spans) rest ending) + length (inside (load_sram sram dram spans))) rest ending c)) (
          node_laned scope (load_sram sram dram spans) run.values.elsewhere n (n + length (beside (load_sram sram dram spans) rest ending)) ran (declared_front p (mems_in (load_sram sram dram spans)) (mems_declared rest) d) le (omega arith) (omega (arith, after_fits)) low.1 typed.0,
          stages_laned (after scope (load_sram sram dram spans)) (no_run run.values.elsewhere) (n + length (beside (load_sram sram dram spans) rest ending) + length (inside (load_sram sram dram spans))) rest ending c ran (declared_back p (mems_in (load_sram sram dram spans)) (mems_declared rest) d) (omega (arith, le)) after_fits (later, later) typed.1,
        ))
    stages_laned scope run n (more_stmt (stmt place (load_line line dram spans)) rest) ending c ran d le fits low typed =
        let b : ℕ = n + length (beside (load_line line dram spans) rest ending) in
        let m : ℕ = b + length (inside (load_line line dram spans)) in
        let later : SourcesHave (Low m) run.values.elsewhere = low_more n m (omega arith) run.values.elsewhere low.1 in
        let after_fits : m + length (registers rest ending) ≤ length core.mems = fits_after n (beside (load_line line dram spans) rest ending) (inside (load_line line dram spans)) (registers rest ending) fits in
        run_laned run.ops (early_stages p.mems run.values.elsewhere n (load_line line dram spans) (more_stage 0 0 false (node p.mems counters run.values.elsewhere n (n + length (beside (load_line line dram spans) rest ending)) (load_line line dram spans)) (stages p.mems counters (no_run run.values.elsewhere) (n + length (beside (load_line line dram spans) rest ending) + length (inside (load_line line dram spans))) rest ending c)))
        (early_good (λ xs. AreLaned core xs) good_laned p.mems run.values.elsewhere n (load_line line dram spans) (more_stage 0 0 false (node p.mems counters run.values.elsewhere n (n + length (beside (load_line line dram spans) rest ending)) (load_line line dram spans)) (stages p.mems counters (no_run run.values.elsewhere) (n + length (beside (load_line line dram spans) rest ending) + length (inside (load_line line dram spans))) rest ending c)) (
          node_laned scope (load_line line dram spans) run.values.elsewhere n (n + length (beside (load_line line dram spans) rest ending)) ran (declared_front p (mems_in (load_line line dram spans)) (mems_declared rest) d) le (omega arith) (omega (arith, after_fits)) low.1 typed.0,
          stages_laned (after scope (load_line line dram spans)) (no_run run.values.elsewhere) (n + length (beside (load_line line dram spans) rest ending) + length (inside (load_line line dram spans))) rest ending c ran (declared_back p (mems_in (load_line line dram spans)) (mems_declared rest) d) (omega (arith, le)) after_fits (later, later) typed.1,
        ))
    stages_laned scope run n (more_stmt (stmt place (store dram spans sram)) rest) ending c ran d le fits low typed =
        let b : ℕ = n + length (beside (store dram spans sram) rest ending) in
        let m : ℕ = b + length (inside (store dram spans sram)) in
        let later : SourcesHave (Low m) run.values.elsewhere = low_more n m (omega arith) run.values.elsewhere low.1 in
        let after_fits : m + length (registers rest ending) ≤ length core.mems = fits_after n (beside (store dram spans sram) rest ending) (inside (store dram spans sram)) (registers rest ending) fits in
        run_laned run.ops (early_stages p.mems run.values.elsewhere n (store dram spans sram) (more_stage 0 0 false (node p.mems counters run.values.elsewhere n (n + length (beside (store dram spans sram) rest ending)) (store dram spans sram)) (stages p.mems counters (no_run run.values.elsewhere) (n + length (beside (store dram spans sram) rest ending) + length (inside (store dram spans sram))) rest ending c)))
        (early_good (λ xs. AreLaned core xs) good_laned p.mems run.values.elsewhere n (store dram spans sram) (more_stage 0 0 false (node p.mems counters run.values.elsewhere n (n + length (beside (store dram spans sram) rest ending)) (store dram spans sram)) (stages p.mems counters (no_run run.values.elsewhere) (n + length (beside (store dram spans sram) rest ending) + length (inside (store dram spans sram))) rest ending c)) (
          node_laned scope (store dram spans sram) run.values.elsewhere n (n + length (beside (store dram spans sram) rest ending)) ran (declared_front p (mems_in (store dram spans sram)) (mems_declared rest) d) le (omega arith) (omega (arith, after_fits)) low.1 typed.0,
          stages_laned (after scope (store dram spans sram)) (no_run run.values.elsewhere) (n + length (beside (store dram spans sram) rest ending) + length (inside (store dram spans sram))) rest ending c ran (declared_back p (mems_in (store dram spans sram)) (mems_declared rest) d) (omega (arith, le)) after_fits (later, later) typed.1,
        ))
    stages_laned scope run n (more_stmt (stmt place (gather sram dram places e)) rest) ending c ran d le fits low typed =
        let b : ℕ = n + length (beside (gather sram dram places e) rest ending) in
        let m : ℕ = b + length (inside (gather sram dram places e)) in
        let later : SourcesHave (Low m) run.values.elsewhere = low_more n m (omega arith) run.values.elsewhere low.1 in
        let after_fits : m + length (registers rest ending) ≤ length core.mems = fits_after n (beside (gather sram dram places e) rest ending) (inside (gather sram dram places e)) (registers rest ending) fits in
        run_laned run.ops (early_stages p.mems run.values.elsewhere n (gather sram dram places e) (more_stage 0 0 false (node p.mems counters run.values.elsewhere n (n + length (beside (gather sram dram places e) rest ending)) (gather sram dram places e)) (stages p.mems counters (no_run run.values.elsewhere) (n + length (beside (gather sram dram places e) rest ending) + length (inside (gather sram dram places e))) rest ending c)))
        (early_good (λ xs. AreLaned core xs) good_laned p.mems run.values.elsewhere n (gather sram dram places e) (more_stage 0 0 false (node p.mems counters run.values.elsewhere n (n + length (beside (gather sram dram places e) rest ending)) (gather sram dram places e)) (stages p.mems counters (no_run run.values.elsewhere) (n + length (beside (gather sram dram places e) rest ending) + length (inside (gather sram dram places e))) rest ending c)) (
          node_laned scope (gather sram dram places e) run.values.elsewhere n (n + length (beside (gather sram dram places e) rest ending)) ran (declared_front p (mems_in (gather sram dram places e)) (mems_declared rest) d) le (omega arith) (omega (arith, after_fits)) low.1 typed.0,
          stages_laned (after scope (gather sram dram places e)) (no_run run.values.elsewhere) (n + length (beside (gather sram dram places e) rest ending) + length (inside (gather sram dram places e))) rest ending c ran (declared_back p (mems_in (gather sram dram places e)) (mems_declared rest) d) (omega (arith, le)) after_fits (later, later) typed.1,
        ))
    stages_laned scope run n (more_stmt (stmt place (scatter dram places e sram)) rest) ending c ran d le fits low typed =
        let b : ℕ = n + length (beside (scatter dram places e sram) rest ending) in
        let m : ℕ = b + length (inside (scatter dram places e sram)) in
        let later : SourcesHave (Low m) run.values.elsewhere = low_more n m (omega arith) run.values.elsewhere low.1 in
        let after_fits : m + length (registers rest ending) ≤ length core.mems = fits_after n (beside (scatter dram places e sram) rest ending) (inside (scatter dram places e sram)) (registers rest ending) fits in
        run_laned run.ops (early_stages p.mems run.values.elsewhere n (scatter dram places e sram) (more_stage 0 0 false (node p.mems counters run.values.elsewhere n (n + length (beside (scatter dram places e sram) rest ending)) (scatter dram places e sram)) (stages p.mems counters (no_run run.values.elsewhere) (n + length (beside (scatter dram places e sram) rest ending) + length (inside (scatter dram places e sram))) rest ending c)))
        (early_good (λ xs. AreLaned core xs) good_laned p.mems run.values.elsewhere n (scatter dram places e sram) (more_stage 0 0 false (node p.mems counters run.values.elsewhere n (n + length (beside (scatter dram places e sram) rest ending)) (scatter dram places e sram)) (stages p.mems counters (no_run run.values.elsewhere) (n + length (beside (scatter dram places e sram) rest ending) + length (inside (scatter dram places e sram))) rest ending c)) (
          node_laned scope (scatter dram places e sram) run.values.elsewhere n (n + length (beside (scatter dram places e sram) rest ending)) ran (declared_front p (mems_in (scatter dram places e sram)) (mems_declared rest) d) le (omega arith) (omega (arith, after_fits)) low.1 typed.0,
          stages_laned (after scope (scatter dram places e sram)) (no_run run.values.elsewhere) (n + length (beside (scatter dram places e sram) rest ending) + length (inside (scatter dram places e sram))) rest ending c ran (declared_back p (mems_in (scatter dram places e sram)) (mems_declared rest) d) (omega (arith, le)) after_fits (later, later) typed.1,
        ))
    stages_laned scope run n (more_stmt (stmt place (block style body)) rest) ending c ran d le fits low typed =
        let b : ℕ = n + length (beside (block style body) rest ending) in
        let m : ℕ = b + length (inside (block style body)) in
        let later : SourcesHave (Low m) run.values.elsewhere = low_more n m (omega arith) run.values.elsewhere low.1 in
        let after_fits : m + length (registers rest ending) ≤ length core.mems = fits_after n (beside (block style body) rest ending) (inside (block style body)) (registers rest ending) fits in
        run_laned run.ops (early_stages p.mems run.values.elsewhere n (block style body) (more_stage 0 0 false (node p.mems counters run.values.elsewhere n (n + length (beside (block style body) rest ending)) (block style body)) (stages p.mems counters (no_run run.values.elsewhere) (n + length (beside (block style body) rest ending) + length (inside (block style body))) rest ending c)))
        (early_good (λ xs. AreLaned core xs) good_laned p.mems run.values.elsewhere n (block style body) (more_stage 0 0 false (node p.mems counters run.values.elsewhere n (n + length (beside (block style body) rest ending)) (block style body)) (stages p.mems counters (no_run run.values.elsewhere) (n + length (beside (block style body) rest ending) + length (inside (block style body))) rest ending c)) (
          node_laned scope (block style body) run.values.elsewhere n (n + length (beside (block style body) rest ending)) ran (declared_front p (mems_in (block style body)) (mems_declared rest) d) le (omega arith) (omega (arith, after_fits)) low.1 typed.0,
          stages_laned (after scope (block style body)) (no_run run.values.elsewhere) (n + length (beside (block style body) rest ending) + length (inside (block style body))) rest ending c ran (declared_back p (mems_in (block style body)) (mems_declared rest) d) (omega (arith, le)) after_fits (later, later) typed.1,
        ))
    stages_laned scope run n (more_stmt (stmt place (foreach style loops body)) rest) ending c ran d le fits low typed =
        let b : ℕ = n + length (beside (foreach style loops body) rest ending) in
        let m : ℕ = b + length (inside (foreach style loops body)) in
        let later : SourcesHave (Low m) run.values.elsewhere = low_more n m (omega arith) run.values.elsewhere low.1 in
        let after_fits : m + length (registers rest ending) ≤ length core.mems = fits_after n (beside (foreach style loops body) rest ending) (inside (foreach style loops body)) (registers rest ending) fits in
        run_laned run.ops (early_stages p.mems run.values.elsewhere n (foreach style loops body) (more_stage 0 0 false (node p.mems counters run.values.elsewhere n (n + length (beside (foreach style loops body) rest ending)) (foreach style loops body)) (stages p.mems counters (no_run run.values.elsewhere) (n + length (beside (foreach style loops body) rest ending) + length (inside (foreach style loops body))) rest ending c)))
        (early_good (λ xs. AreLaned core xs) good_laned p.mems run.values.elsewhere n (foreach style loops body) (more_stage 0 0 false (node p.mems counters run.values.elsewhere n (n + length (beside (foreach style loops body) rest ending)) (foreach style loops body)) (stages p.mems counters (no_run run.values.elsewhere) (n + length (beside (foreach style loops body) rest ending) + length (inside (foreach style loops body))) rest ending c)) (
          node_laned scope (foreach style loops body) run.values.elsewhere n (n + length (beside (foreach style loops body) rest ending)) ran (declared_front p (mems_in (foreach style loops body)) (mems_declared rest) d) le (omega arith) (omega (arith, after_fits)) low.1 typed.0,
          stages_laned (after scope (foreach style loops body)) (no_run run.values.elsewhere) (n + length (beside (foreach style loops body) rest ending) + length (inside (foreach style loops body))) rest ending c ran (declared_back p (mems_in (foreach style loops body)) (mems_declared rest) d) (omega (arith, le)) after_fits (later, later) typed.1,
        ))
    stages_laned scope run n (more_stmt (stmt place (reduce style fold acc loops body e comb)) rest) ending c ran d le fits low typed =
        let b : ℕ = n + length (beside (reduce style fold acc loops body e comb) rest ending) in
        let m : ℕ = b + length (inside (reduce style fold acc loops body e comb)) in
        let later : SourcesHave (Low m) run.values.elsewhere = low_more n m (omega arith) run.values.elsewhere low.1 in
        let after_fits : m + length (registers rest ending) ≤ length core.mems = fits_after n (beside (reduce style fold acc loops body e comb) rest ending) (inside (reduce style fold acc loops body e comb)) (registers rest ending) fits in
        run_laned run.ops (early_stages p.mems run.values.elsewhere n (reduce style fold acc loops body e comb) (more_stage 0 0 false (node p.mems counters run.values.elsewhere n (n + length (beside (reduce style fold acc loops body e comb) rest ending)) (reduce style fold acc loops body e comb)) (stages p.mems counters (no_run run.values.elsewhere) (n + length (beside (reduce style fold acc loops body e comb) rest ending) + length (inside (reduce style fold acc loops body e comb))) rest ending c)))
        (early_good (λ xs. AreLaned core xs) good_laned p.mems run.values.elsewhere n (reduce style fold acc loops body e comb) (more_stage 0 0 false (node p.mems counters run.values.elsewhere n (n + length (beside (reduce style fold acc loops body e comb) rest ending)) (reduce style fold acc loops body e comb)) (stages p.mems counters (no_run run.values.elsewhere) (n + length (beside (reduce style fold acc loops body e comb) rest ending) + length (inside (reduce style fold acc loops body e comb))) rest ending c)) (
          node_laned scope (reduce style fold acc loops body e comb) run.values.elsewhere n (n + length (beside (reduce style fold acc loops body e comb) rest ending)) ran (declared_front p (mems_in (reduce style fold acc loops body e comb)) (mems_declared rest) d) le (omega arith) (omega (arith, after_fits)) low.1 typed.0,
          stages_laned (after scope (reduce style fold acc loops body e comb)) (no_run run.values.elsewhere) (n + length (beside (reduce style fold acc loops body e comb) rest ending) + length (inside (reduce style fold acc loops body e comb))) rest ending c ran (declared_back p (mems_in (reduce style fold acc loops body e comb)) (mems_declared rest) d) (omega (arith, le)) after_fits (later, later) typed.1,
        ))
    stages_laned scope run n (more_stmt (stmt place (mem_reduce style acc loops body part comb)) rest) ending c ran d le fits low typed =
        let b : ℕ = n + length (beside (mem_reduce style acc loops body part comb) rest ending) in
        let m : ℕ = b + length (inside (mem_reduce style acc loops body part comb)) in
        let later : SourcesHave (Low m) run.values.elsewhere = low_more n m (omega arith) run.values.elsewhere low.1 in
        let after_fits : m + length (registers rest ending) ≤ length core.mems = fits_after n (beside (mem_reduce style acc loops body part comb) rest ending) (inside (mem_reduce style acc loops body part comb)) (registers rest ending) fits in
        run_laned run.ops (early_stages p.mems run.values.elsewhere n (mem_reduce style acc loops body part comb) (more_stage 0 0 false (node p.mems counters run.values.elsewhere n (n + length (beside (mem_reduce style acc loops body part comb) rest ending)) (mem_reduce style acc loops body part comb)) (stages p.mems counters (no_run run.values.elsewhere) (n + length (beside (mem_reduce style acc loops body part comb) rest ending) + length (inside (mem_reduce style acc loops body part comb))) rest ending c)))
        (early_good (λ xs. AreLaned core xs) good_laned p.mems run.values.elsewhere n (mem_reduce style acc loops body part comb) (more_stage 0 0 false (node p.mems counters run.values.elsewhere n (n + length (beside (mem_reduce style acc loops body part comb) rest ending)) (mem_reduce style acc loops body part comb)) (stages p.mems counters (no_run run.values.elsewhere) (n + length (beside (mem_reduce style acc loops body part comb) rest ending) + length (inside (mem_reduce style acc loops body part comb))) rest ending c)) (
          node_laned scope (mem_reduce style acc loops body part comb) run.values.elsewhere n (n + length (beside (mem_reduce style acc loops body part comb) rest ending)) ran (declared_front p (mems_in (mem_reduce style acc loops body part comb)) (mems_declared rest) d) le (omega arith) (omega (arith, after_fits)) low.1 typed.0,
          stages_laned (after scope (mem_reduce style acc loops body part comb)) (no_run run.values.elsewhere) (n + length (beside (mem_reduce style acc loops body part comb) rest ending) + length (inside (mem_reduce style acc loops body part comb))) rest ending c ran (declared_back p (mems_in (mem_reduce style acc loops body part comb)) (mems_declared rest) d) (omega (arith, le)) after_fits (later, later) typed.1,
        ))
    stages_laned scope run n (more_stmt (stmt place (fsm start tested test state body last next)) rest) ending c ran d le fits low typed =
        let b : ℕ = n + length (beside (fsm start tested test state body last next) rest ending) in
        let m : ℕ = b + length (inside (fsm start tested test state body last next)) in
        let later : SourcesHave (Low m) run.values.elsewhere = low_more n m (omega arith) run.values.elsewhere low.1 in
        let after_fits : m + length (registers rest ending) ≤ length core.mems = fits_after n (beside (fsm start tested test state body last next) rest ending) (inside (fsm start tested test state body last next)) (registers rest ending) fits in
        run_laned run.ops (early_stages p.mems run.values.elsewhere n (fsm start tested test state body last next) (more_stage 0 0 false (node p.mems counters run.values.elsewhere n (n + length (beside (fsm start tested test state body last next) rest ending)) (fsm start tested test state body last next)) (stages p.mems counters (no_run run.values.elsewhere) (n + length (beside (fsm start tested test state body last next) rest ending) + length (inside (fsm start tested test state body last next))) rest ending c)))
        (early_good (λ xs. AreLaned core xs) good_laned p.mems run.values.elsewhere n (fsm start tested test state body last next) (more_stage 0 0 false (node p.mems counters run.values.elsewhere n (n + length (beside (fsm start tested test state body last next) rest ending)) (fsm start tested test state body last next)) (stages p.mems counters (no_run run.values.elsewhere) (n + length (beside (fsm start tested test state body last next) rest ending) + length (inside (fsm start tested test state body last next))) rest ending c)) (
          node_laned scope (fsm start tested test state body last next) run.values.elsewhere n (n + length (beside (fsm start tested test state body last next) rest ending)) ran (declared_front p (mems_in (fsm start tested test state body last next)) (mems_declared rest) d) le (omega arith) (omega (arith, after_fits)) low.1 typed.0,
          stages_laned (after scope (fsm start tested test state body last next)) (no_run run.values.elsewhere) (n + length (beside (fsm start tested test state body last next) rest ending) + length (inside (fsm start tested test state body last next))) rest ending c ran (declared_back p (mems_in (fsm start tested test state body last next)) (mems_declared rest) d) (omega (arith, le)) after_fits (later, later) typed.1,
        ))
    stages_laned scope run n (more_stmt (stmt place (branch test first second)) rest) ending c ran d le fits low typed =
        let b : ℕ = n + length (beside (branch test first second) rest ending) in
        let m : ℕ = b + length (inside (branch test first second)) in
        let later : SourcesHave (Low m) run.values.elsewhere = low_more n m (omega arith) run.values.elsewhere low.1 in
        let after_fits : m + length (registers rest ending) ≤ length core.mems = fits_after n (beside (branch test first second) rest ending) (inside (branch test first second)) (registers rest ending) fits in
        run_laned run.ops (early_stages p.mems run.values.elsewhere n (branch test first second) (more_stage 0 0 false (node p.mems counters run.values.elsewhere n (n + length (beside (branch test first second) rest ending)) (branch test first second)) (stages p.mems counters (no_run run.values.elsewhere) (n + length (beside (branch test first second) rest ending) + length (inside (branch test first second))) rest ending c)))
        (early_good (λ xs. AreLaned core xs) good_laned p.mems run.values.elsewhere n (branch test first second) (more_stage 0 0 false (node p.mems counters run.values.elsewhere n (n + length (beside (branch test first second) rest ending)) (branch test first second)) (stages p.mems counters (no_run run.values.elsewhere) (n + length (beside (branch test first second) rest ending) + length (inside (branch test first second))) rest ending c)) (
          node_laned scope (branch test first second) run.values.elsewhere n (n + length (beside (branch test first second) rest ending)) ran (declared_front p (mems_in (branch test first second)) (mems_declared rest) d) le (omega arith) (omega (arith, after_fits)) low.1 typed.0,
          stages_laned (after scope (branch test first second)) (no_run run.values.elsewhere) (n + length (beside (branch test first second) rest ending) + length (inside (branch test first second))) rest ending c ran (declared_back p (mems_in (branch test first second)) (mems_declared rest) d) (omega (arith, le)) after_fits (later, later) typed.1,
        ))

    node_laned : (scope : Scope) (k : PlainStmtKind) (sources : Sources) (b n : ℕ) → InRange p scope → Declared p (mems_in k) → length (written_mems p.mems) ≤ b → b + length (beside k no_stmt no_more) ≤ n → n + length (inside k) ≤ length core.mems → SourcesHave (Low b) sources → StmtTyped p scope k
        → IsLaned core (node p.mems counters sources b n k)
    node_laned scope (load_sram sram dram spans) sources b n ran d le more fits low typed = either_laned (slice_lanes spans == 1) _ _ tt tt
    node_laned scope (load_line line dram spans) sources b n ran d le more fits low typed = either_laned (slice_lanes spans == 1) _ _ tt tt
    node_laned scope (store dram spans sram) sources b n ran d le more fits low typed = either_laned (slice_lanes spans == 1) _ _ tt tt
    node_laned scope (gather sram dram places e) sources b n ran d le more fits low typed = tt
    node_laned scope (scatter dram places e sram) sources b n ran d le more fits low typed = tt
    node_laned scope (block style body) sources b n ran d le more fits low typed =
        let here : SourcesHave (Low n) sources = low_more b n (omega (arith, more)) sources low in
        plain_laned sources n [] (style_of p.mems counters style body) body tt (λ e. stages_laned scope (no_run sources) n body no_more nothing ran d (omega (arith, le, more)) (outer_fits n body (registers body no_more) fits e) (here, here) typed)
    node_laned scope (foreach style loops body) sources b n ran d le more fits low typed =
        let here : SourcesHave (Low n) sources = low_more b n (omega (arith, more)) sources low in
        plain_laned sources n (counters_of p.mems sources b loops) style body (loops_laned sources b loops typed.1.lanes)
        (λ e. stages_laned (with_counters scope loops) (no_run sources) n body no_more nothing (range_loops p scope loops ran) d (omega (arith, le, more)) (outer_fits n body (registers body no_more) fits e) (here, here) typed.2)
    node_laned scope (reduce style true acc loops body e comb) sources b n ran d le more fits low typed =
        let here : SourcesHave (Low n) sources = low_more b n (omega (arith, more)) sources low in
        let inside_scope : Scope = with_counters scope loops in
        let within : InRange p inside_scope = range_loops p scope loops ran in
        let a : ℕ = mem_number p.mems acc in
        let lt : acc < length p.mems = ran acc typed.3.seen in
        let off : is_off_dram (mem p.mems acc) ≡ true = off_of scope acc Reg (type_of e) typed.3 refl in
        let t : Test p core = fold_test acc lt off in
        let have : SourcesHave (IsPassed p core t) sources = weaken (Low b) (IsPassed p core t) (λ r l. above acc lt off r l.0) sources low in
        let regs : Regs p core t n = λ r k. above acc lt off r (omega (arith, k, le, more)) in
        let word : Names (is_chip p core t) e = names_pass p core t (after_all inside_scope body) (range_all p inside_scope body within d) e typed.5 typed.7 in
        fold_laned t sources have n regs inside_scope within (counters_of p.mems sources b loops) style body d typed.2 typed.6 (loops_laned sources b loops typed.1.lanes) (ending_of loops e) a comb e
        (ending_passes p counters core t loops e word) (ending_is (λ x. Ended x (folds a comb e)) loops e tt tt) (refl, word)
        (λ i. stages_laned inside_scope (no_run sources) n body (ending_of loops e) (folds a comb e) within d (omega (arith, le, more)) (outer_fits n body (registers body (ending_of loops e)) fits i) (here, here) typed.2)
    node_laned scope (reduce style false acc loops body e comb) sources b n ran d le more fits low typed =
        let here : SourcesHave (Low n) sources = low_more b n (omega (arith, more)) sources low in
        let inside_scope : Scope = with_counters scope loops in
        let within : InRange p inside_scope = range_loops p scope loops ran in
        let a : ℕ = mem_number p.mems acc in
        let begun : ℕ = b + length (registers_for is_early (bounds_of loops)) in
        let last : suc begun ≤ n = begun_before b n (registers_for is_early (bounds_of loops)) begun_register more in
        let lt : acc < length p.mems = ran acc typed.3.seen in
        let off : is_off_dram (mem p.mems acc) ≡ true = off_of scope acc Reg (type_of e) typed.3 refl in
        let later : length (written_mems p.mems) ≤ begun = omega (arith, le) in
        let there : begun < length core.mems = omega (arith, last, fits) in
        let t : Test p core = reduce_test acc lt off begun later there in
        let have : SourcesHave (IsPassed p core t) sources = weaken (Low b) (IsPassed p core t) (λ r l. both acc lt off begun later there r l.0 (λ i. let k = l.1 in absurd (omega (arith, i, k)))) sources low in
        let regs : Regs p core t n = λ r k. both acc lt off begun later there r (omega (arith, k, le, more)) (λ i. absurd (omega (arith, i, k, last))) in
        let word : Names (is_chip p core t) e = names_pass p core t (after_all inside_scope body) (range_all p inside_scope body within d) e typed.5 typed.7 in
        reduce_laned t sources have n regs inside_scope within (counters_of p.mems sources b loops) style body d typed.2 typed.6 (loops_laned sources b loops typed.1.lanes) (ending_of loops e) a begun comb e
        (ending_passes p counters core t loops e word) (ending_is (λ x. Ended x (reduces a begun comb e)) loops e tt tt) (refl, word)
        (λ i. stages_laned inside_scope (no_run sources) n body (ending_of loops e) (reduces a begun comb e) within d (omega (arith, le, more)) (outer_fits n body (registers body (ending_of loops e)) fits i) (here, here) typed.2)
    node_laned scope (mem_reduce style acc loops body part comb) sources b n ran d le more fits low typed =
        let here : SourcesHave (Low n) sources = low_more b n (omega (arith, more)) sources low in
        let inside_scope : Scope = with_counters scope loops in
        let within : InRange p inside_scope = range_loops p scope loops ran in
        let a : ℕ = mem_number p.mems acc in
        let begun : ℕ = b + length (registers_for is_early (bounds_of loops)) in
        let last : suc begun ≤ n = begun_before b n (registers_for is_early (bounds_of loops)) begun_register more in
        let lt : acc < length p.mems = ran acc typed.3.seen in
        let off : is_off_dram (mem p.mems acc) ≡ true = off_of scope acc Sram (mem p.mems acc).ty typed.3 refl in
        let later : length (written_mems p.mems) ≤ begun = omega (arith, le) in
        let there : begun < length core.mems = omega (arith, last, fits) in
        let t : Test p core = reduce_test acc lt off begun later there in
        let have : SourcesHave (IsPassed p core t) sources = weaken (Low b) (IsPassed p core t) (λ r l. both acc lt off begun later there r l.0 (λ i. let k = l.1 in absurd (omega (arith, i, k)))) sources low in
        let regs : Regs p core t n = λ r k. both acc lt off begun later there r (omega (arith, k, le, more)) (λ i. absurd (omega (arith, i, k, last))) in
        let is = d part (own_declared body part typed.6) in
        let chip : IsTrue (is_chip p core t part) = t.chips part (own_ok t.ok body part typed.5 typed.6) is.0 is.1 in
        ended_laned t sources have n regs inside_scope within (counters_of p.mems sources b loops) style body d typed.2 typed.5 (loops_laned sources b loops typed.1.lanes) no_more (reduces_elements part a begun comb) tt tt (refl, chip)
        (stages_laned inside_scope (no_run sources) n body no_more (reduces_elements part a begun comb) within d (omega (arith, le, more)) fits (here, here) typed.2)
    node_laned scope (fsm start tested test state body last next) sources b n ran d le more fits low typed =
        let here : SourcesHave (Low (suc n)) sources = low_more b (suc n) (omega (arith, more)) sources low in
        let kept : Sources = with_state sources tested state last n in
        let is : Low (suc n) n = (omega (arith, le, more), omega arith) in
        let P = Low (suc n) in
        let known : SourcesHave (Low (suc n)) kept = changed_have P _ last (in_register n) (changed_have P _ state (in_register n) (changed_have P sources tested (in_register n) here is) is) is in
        plain_laned kept (suc n) [] Pipe body tt
        (λ e. stages_laned (with_val scope state (type_of start)) (no_run kept) (suc n) body no_more nothing ran d (omega (arith, le, more)) (outer_fits (suc n) body (registers body no_more) (omega (arith, fits)) e) (known, known) typed.4)
    node_laned scope (branch test first second) sources b n ran d le more fits low typed =
        let m : ℕ = n + length (registers_in first no_more) in
        let here : SourcesHave (Low n) sources = low_more b n (omega (arith, more)) sources low in
        let later : SourcesHave (Low m) sources = low_more b m (omega (arith, more)) sources low in
        let sum = length-append (registers_in first no_more) (registers_in second no_more) in
        let f : n + length (registers_in first no_more) ≤ length core.mems = omega (arith, fits, sum) in
        let g : m + length (registers_in second no_more) ≤ length core.mems = omega (arith, fits, sum) in (
          plain_laned sources n [] Pipe first tt (λ e. stages_laned scope (no_run sources) n first no_more nothing ran (declared_front p (mems_declared first) (mems_declared second) d) (omega (arith, le, more)) (outer_fits n first (registers first no_more) f e) (here, here) typed.1),
          plain_laned sources m [] Pipe second tt (λ e. stages_laned scope (no_run sources) m second no_more nothing ran (declared_back p (mems_declared first) (mems_declared second) d) (omega (arith, le, more)) (outer_fits m second (registers second no_more) g e) (later, later) typed.2),
        )
    node_laned scope (declare m) sources b n ran d le more fits low typed = (tt, tt)
    node_laned scope (name v x) sources b n ran d le more fits low typed = (tt, tt)
    node_laned scope (set_reg m x) sources b n ran d le more fits low typed = (tt, tt)
    node_laned scope (set_out m x) sources b n ran d le more fits low typed = (tt, tt)
    node_laned scope (set_sram m xs x) sources b n ran d le more fits low typed = (tt, tt)
    node_laned scope (enq m x) sources b n ran d le more fits low typed = (tt, tt)

pub programs_laned : (p : PlainProgram) → IsProgram p → IsLaned (core_of p) (core_of p).root
unfolding core_of
programs_laned p h =
    let n : ℕ = length (written_mems p.mems) in
    let sum = length-append (written_mems p.mems) (registers_in p.body no_more) in
    let wide : length (written_mems p.mems) ≤ length (core_of p).mems = omega (arith, sum) in
    let fits : n + length (registers_in p.body no_more) ≤ length (core_of p).mems = omega (arith, sum) in
    let ran : InRange p (outer_scope p) = λ m c. (port_is p h m c).0 in
    let d : Declared p (mems_declared p.body) = λ m c. let is = declared_is p h m (contains_count (mems_declared p.body) m c) in (is.0, off_dram p h m is.1) in
    plain_laned p (length p.counters) (core_of p) wide no_sources n [] Pipe p.body tt
    (λ e. stages_laned p (length p.counters) (core_of p) wide (outer_scope p) (no_run no_sources) n p.body no_more nothing ran d (omega arith) (outer_fits p (length p.counters) (core_of p) wide n p.body (registers p.body no_more) fits e) ((λ v. tt), (λ v. tt)) h.typed)
