-- The last stages of a body keep the rules of nodes.
use Rattle.std.proofs.Common.{◌≡◌, ℕ, suc, ◌+◌, ◌≤◌, Bool, true, false, List, [], ◌∷◌, ◌++◌, Some, refl, sym, subst, arith, if◌then◌else◌}
use Rattle.std.proofs.lemmas.Bool.{and_from, le-leb, false≢true}
use Rattle.std.specs.Prelude.{length}
use Rattle.sp_tree.specs.Expressions as expressions
use Rattle.sp_tree.specs.PlainExpression.{PlainExpr, type_of}
use Rattle.sp_tree.specs.PlainProgram.{PlainProgram}
use Rattle.sp_tree.specs.PlainStatement.{PlainStmtKind, no_stmt, load_sram, load_line, store, gather, scatter, foreach, reduce, mem_reduce}
use Rattle.sp_tree.specs.Typing.{Scope, Typed}
use Rattle.sp_core.specs.declared.operation.OpKind.TheVariants as kind
use Rattle.sp_core.specs.Around.{Around}
use Rattle.sp_core.specs.NodeRules.{is_node_right, are_stages}
use Rattle.sp_core.specs.OperationRules.{are_operations_right_after}
use Rattle.sp_core.specs.PlainCore.{PlainOp, PlainCore, PlainStages, no_stage, more_stage}
use Rattle.sp_core.specs.Typed.{Given, gives}
use Rattle.sp_sugar.specs.Agreement.{HasMemories}
use Rattle.sp_sugar.specs.Combination.{element_loop}
use Rattle.sp_sugar.specs.Early.{is_early, is_early_slice, is_early_part, parts_of, bounds_of, into_register, slice_ops, stage_of, bound_stages, slice_stage, early_stages}
use Rattle.sp_sugar.specs.Laws.{CombinesRightly}
use Rattle.sp_sugar.specs.Numbers.{crossing_register, numbers_from}
use Rattle.sp_sugar.specs.Operations.{Code, code, alone, read_op, write_op}
use Rattle.sp_sugar.specs.Registers.{at_end}
use Rattle.sp_sugar.specs.Rules.{given_by, IsRegister, Keep}
use Rattle.sp_sugar.specs.Runs.{Run, next_code}
use Rattle.sp_sugar.specs.Stages.{run_stage, Combines, nothing, folds, reduces, reduces_elements, combining, combination_stage, last_stages}
use Rattle.sp_sugar.specs.Uses.{uses, Ending, no_more, in_last_run, in_combination}
use Rattle.sp_sugar.specs.Values.{Sources}
use Rattle.sp_sugar.proofs.CombKeeps.{fold_keeps, reduce_keeps, first_given, write_named, write_takes}
use Rattle.sp_sugar.proofs.EarlyKeeps.{Good, good_run, code_keeps}
use Rattle.sp_sugar.proofs.KeepLemmas.{given_length, keep_others, keep_silent}
use Rattle.sp_sugar.proofs.Keeps.{register_read}
use Rattle.sp_sugar.proofs.Placed.{Has, Placed, first_register}
use Rattle.sp_sugar.proofs.RunKeeps.{RunRight, right_so_far, expr_keeps}
use Rattle.sp_sugar.proofs.UseLemmas.{only}

-- stages stay stages with others before them
pub run_some : (ops : List PlainOp) (xs : PlainStages) → are_stages xs ≡ true → are_stages (run_stage ops xs) ≡ true
run_some [] xs e = e
run_some (op ∷ ops) xs e = refl

module _ (p : PlainProgram) (sources : Sources) where
  bound_some : (r : ℕ) (es : List PlainExpr) (xs : PlainStages) → are_stages xs ≡ true → are_stages (bound_stages p.mems sources r es xs) ≡ true
  bound_some r [] xs e = e
  bound_some r (x ∷ es) xs e = choose (is_early x) (bound_some r es xs e)
    where
      choose : (b : Bool) → are_stages (bound_stages p.mems sources r es xs) ≡ true → are_stages (if b then stage_of (into_register p.mems sources 0 r x) (bound_stages p.mems sources (suc r) es xs) else bound_stages p.mems sources r es xs) ≡ true
      choose true f = refl
      choose false f = f

  slice_some : (r : ℕ) (spans : List _) (xs : PlainStages) → are_stages xs ≡ true → are_stages (slice_stage p.mems sources r spans xs) ≡ true
  slice_some r spans xs e = choose (is_early_slice spans)
    where
      choose : (b : Bool) → are_stages (if b then stage_of (slice_ops p.mems sources (is_early_part spans) 0 r (parts_of spans)) xs else xs) ≡ true
      choose true = refl
      choose false = e

  pub early_some : (k : PlainStmtKind) (r : ℕ) (xs : PlainStages) → are_stages xs ≡ true → are_stages (early_stages p.mems sources r k xs) ≡ true
  early_some (load_sram sram dram spans) r xs e = slice_some r spans xs e
  early_some (load_line line dram spans) r xs e = slice_some r spans xs e
  early_some (store dram spans sram) r xs e = slice_some r spans xs e
  early_some (gather sram dram places n) r xs e = bound_some r (n ∷ []) xs e
  early_some (scatter dram places n sram) r xs e = bound_some r (n ∷ []) xs e
  early_some (foreach style loops body) r xs e = bound_some r (bounds_of loops) xs e
  early_some (reduce style fold acc loops body x comb) r xs e = bound_some r (bounds_of loops) xs e
  early_some (mem_reduce style acc loops body part comb) r xs e = bound_some r (bounds_of loops) xs e
  early_some _ r xs e = e

module _ (p : PlainProgram) (core : PlainCore) (h : HasMemories p core) (around : Around) where
  -- the word that is combined at the end, and what combines it
  abbrev pub WordEnds : Scope → PlainExpr → Combines → Type 0
  WordEnds scope e c = Typed p scope e × ((earlier : Given) (word at : ℕ) → at ≡ length earlier → gives earlier word (type_of e) ≡ true → are_operations_right_after core around earlier (combining p.mems (length p.counters) at word c) ≡ true)

  abbrev pub Ends : Scope → Ending → Combines → Type 0
  Ends scope ending (reduces_elements part acc begun comb) = is_node_right core around (element_loop p.mems (length p.counters) (expressions.dims p.mems part) part acc begun (expressions.mem p.mems part).ty comb) ≡ true
  Ends scope no_more c = Unit {0}
  Ends scope (in_last_run e) c = WordEnds scope e c
  Ends scope (in_combination e) c = WordEnds scope e c

  pub fold_ends : (scope : Scope) (acc : ℕ) (comb : _) (e : PlainExpr) → CombinesRightly p core around scope (folds acc comb e) → WordEnds scope e (folds acc comb e)
  fold_ends scope acc comb e r = (r.0, λ earlier word at same given. subst (λ n. are_operations_right_after core around earlier (combining p.mems (length p.counters) n word (folds acc comb e)) ≡ true) (sym same) (fold_keeps core around earlier word acc (type_of e) comb given r.1))

  pub reduce_ends : (scope : Scope) (acc begun : ℕ) (comb : _) (e : PlainExpr) → CombinesRightly p core around scope (reduces acc begun comb e) → WordEnds scope e (reduces acc begun comb e)
  reduce_ends scope acc begun comb e r = (r.0, λ earlier word at same given. subst (λ n. are_operations_right_after core around earlier (combining p.mems (length p.counters) n word (reduces acc begun comb e)) ≡ true) (sym same) (reduce_keeps core around earlier word acc (type_of e) comb given r.1 begun r.2))

  module _ (few : length around.counters ≤ 1000) where
    comb_stage : (scope : Scope) (e : PlainExpr) (x : Code) (c : Combines) → Keep core around [] x.ops (x.word ∷ []) (type_of e ∷ []) → WordEnds scope e c → Good core around (combination_stage p.mems (length p.counters) x c)
    comb_stage scope e x c k ends = (
      (
        and_from _ _ (and_from _ _ (and_from _ _ refl (le-leb (0 + length around.counters) 1000 (omega (arith, few)))) refl)
            (keep_others core around [] x.ops (combining p.mems (length p.counters) (0 + length x.ops) x.word c) [] [] [] [] (record { right = k.right; give = refl })
            (record { right = ends.1 (given_by x.ops) x.word (0 + length x.ops) (omega (arith, given_length x.ops)) (first_given core around (given_by x.ops) x.word (type_of e) k.give); give = refl })).right,
        tt,
      ),
      (refl, refl, tt),
    )

    module _ (scope : Scope) (run : Run) (n : ℕ) where
      apart_right : (e : PlainExpr) (c : Combines) → RunRight p core h around scope run no_stmt (in_combination e) → WordEnds scope e c → Good core around (run_stage run.ops (combination_stage p.mems (length p.counters) (code p.mems run.values.elsewhere 0 e) c))
      apart_right e c g ends = good_run core around few run.ops (combination_stage p.mems (length p.counters) (code p.mems run.values.elsewhere 0 e) c) g.right
          (comb_stage scope e (code p.mems run.values.elsewhere 0 e) c
          (code_keeps p core h around scope run.values.elsewhere (λ v. uses (only v) e) (record { mems = g.mems; vals = λ v c u. g.later v c u; counters = g.counters }) e ends.0 (λ v u. u) [] 0 refl) ends)

      in_run_right : (e : PlainExpr) (c : Combines) → RunRight p core h around scope run no_stmt (in_last_run e) → Placed core n (crossing_register (type_of e) ∷ []) → Has around (n ∷ []) → WordEnds scope e c
          → Good core around (run_stage (run.ops ++ (next_code p.mems run e).ops ++ write_op (type_of e) n ((next_code p.mems run e).word ∷ []) ∷ []) (combination_stage p.mems (length p.counters) (alone 0 (read_op (type_of e) n [])) c))
      in_run_right e c g placed has ends =
          let i : IsRegister core around n (type_of e) = first_register core around n (crossing_register (type_of e)) (type_of e) placed has refl refl in
          let x : Code = next_code p.mems run e in
          let k = expr_keeps p core h around scope run no_stmt (in_last_run e) g e ends.0 (λ v u. u) in
          let both = keep_others core around [] run.ops x.ops [] (x.word ∷ []) [] (type_of e ∷ []) (right_so_far p core h around scope run no_stmt (in_last_run e) g) k in
          good_run core around few (run.ops ++ x.ops ++ write_op (type_of e) n (x.word ∷ []) ∷ []) (combination_stage p.mems (length p.counters) (alone 0 (read_op (type_of e) n [])) c)
          (keep_silent core around [] (run.ops ++ x.ops) (x.word ∷ []) (type_of e ∷ []) both kind.Write (type_of e) (Some n) refl (write_named core around n (type_of e) i) (write_takes core around n (type_of e) i)).right
          (comb_stage scope e (alone 0 (read_op (type_of e) n [])) c (register_read core around [] n 0 (type_of e) i refl) ends)

      pub last_good : (ending : Ending) (c : Combines) → RunRight p core h around scope run no_stmt ending → Placed core n (at_end ending) → Has around (numbers_from n (length (at_end ending))) → Ends scope ending c
          → Good core around (last_stages p.mems (length p.counters) run n ending c)
      last_good ending (reduces_elements part acc begun comb) g placed has ends = good_run core around few run.ops (more_stage 0 0 true (element_loop p.mems (length p.counters) (expressions.dims p.mems part) part acc begun (expressions.mem p.mems part).ty comb) no_stage) g.right ((ends, tt), (refl, refl, tt))
      last_good no_more nothing g placed has ends = good_run core around few run.ops no_stage g.right (tt, tt)
      last_good no_more (folds acc comb x) g placed has ends = good_run core around few run.ops no_stage g.right (tt, tt)
      last_good no_more (reduces acc begun comb x) g placed has ends = good_run core around few run.ops no_stage g.right (tt, tt)
      last_good (in_combination e) nothing g placed has ends = apart_right e nothing g ends
      last_good (in_combination e) (folds acc comb x) g placed has ends = apart_right e (folds acc comb x) g ends
      last_good (in_combination e) (reduces acc begun comb x) g placed has ends = apart_right e (reduces acc begun comb x) g ends
      last_good (in_last_run e) nothing g placed has ends = in_run_right e nothing g placed has ends
      last_good (in_last_run e) (folds acc comb x) g placed has ends = in_run_right e (folds acc comb x) g placed has ends
      last_good (in_last_run e) (reduces acc begun comb x) g placed has ends = in_run_right e (reduces acc begun comb x) g placed has ends

-- whether the last stage goes over elements
abbrev pub of_elements : Combines → Bool
of_elements (reduces_elements part acc begun comb) = true
of_elements _ = false

pub last_some : (p : PlainProgram) (run : Run) (n : ℕ) (ending : Ending) (c : Combines) → of_elements c ≡ true → are_stages (last_stages p.mems (length p.counters) run n ending c) ≡ true
last_some p run n ending (reduces_elements part acc begun comb) e = run_some run.ops _ refl
last_some p run n ending nothing e = absurd (false≢true e)
last_some p run n ending (folds acc comb x) e = absurd (false≢true e)
last_some p run n ending (reduces acc begun comb x) e = absurd (false≢true e)
