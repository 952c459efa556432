-- Inner bodies keep the rules of nodes, with what is combined with them.
use Rattle.std.proofs.Common.{◌≡◌, ℕ, ◌+◌, Bool, true, false, ◌||◌, List, [], ◌∷◌, ◌++◌, Option, Some, None, refl, sym, ◌∙◌, subst, length-append}
use Rattle.std.proofs.lemmas.Bool.{false≢true, and_from}
use Rattle.std.specs.Prelude.{length, map, Contains, IsTrue}
use Rattle.sp_words.specs.declared.kind.Kind.TheVariants.{Reg, ArgOut}
use Rattle.sp_tree.specs.PlainExpression.{PlainExpr, type_of}
use Rattle.sp_tree.specs.PlainProgram.{PlainProgram}
use Rattle.sp_tree.specs.PlainStatement.{PlainStmts, stmt, declare, name, set_reg, set_out, set_sram, enq, no_stmt, more_stmt}
use Rattle.sp_tree.specs.Structure.{own_mems, is_inner}
use Rattle.sp_tree.specs.Tallies.{Tally, primitive}
use Rattle.sp_tree.specs.Typing.{Scope, with_mem, with_val, Typed, BodyTyped, after_all}
use Rattle.sp_core.specs.Around.{Around, within}
use Rattle.sp_core.specs.NodeRules.{are_counters_right, is_node_right}
use Rattle.sp_core.specs.OperationRules.{are_operations_right_after}
use Rattle.sp_core.specs.PlainCore.{PlainOp, PlainCounter, PlainCore}
use Rattle.sp_core.specs.Typed.{gives}
use Rattle.sp_sugar.specs.Agreement.{HasMemories}
use Rattle.sp_sugar.specs.Combination.{fold_ops, reduce_ops}
use Rattle.sp_sugar.specs.Laws.{CombinesRightly, body_needs}
use Rattle.sp_sugar.specs.Numbers.{mem_number}
use Rattle.sp_sugar.specs.Operations.{Code}
use Rattle.sp_sugar.specs.Rules.{given_by, MayNeed, MayOwn, Keep}
use Rattle.sp_sugar.specs.Runs.{Run, no_run, with_named, with_reset, with_stmt, next_code, inner_run}
use Rattle.sp_sugar.specs.Stages.{Combines, nothing, folds, reduces, reduces_elements, inner_node}
use Rattle.sp_sugar.specs.Uses.{are_using, is_using, names_after, renamed, Ending, no_more, in_last_run, is_apart, ending_uses, is_used_later}
use Rattle.sp_sugar.specs.Values.{Sources}
use Rattle.sp_sugar.proofs.CombKeeps.{fold_keeps, reduce_keeps, first_given}
use Rattle.sp_sugar.proofs.KeepLemmas.{given_length, keep_others}
use Rattle.sp_sugar.proofs.RunKeeps.{RunRight, right_so_far, expr_keeps, named_keeps, write_keeps, sram_keeps, enq_keeps, reset_keeps}
use Rattle.sp_sugar.proofs.UseLemmas.{used, only}

-- a body without stages has no later stage
never_later : (body : PlainStmts) (ending : Ending) (is : ℕ → Bool) → is_inner body ≡ true → ((js : ℕ → Bool) → is_apart js ending ≡ false) → is_used_later is body ending ≡ false
never_later no_stmt ending is inner apart = apart is
never_later (more_stmt (stmt place k) rest) ending is inner apart = choose (primitive k) (is_using is k || are_using is rest || ending_uses (names_after is rest) ending) inner (λ i. never_later rest ending (renamed is k) i apart)
  where
    choose : (o : Option Tally) (other : Bool) → (elim o as (λ _. Bool) [ Some t ↦ is_inner rest | None ↦ false ]) ≡ true → (is_inner rest ≡ true → is_used_later (renamed is k) rest ending ≡ false)
        → (elim o as (λ _. Bool) [ Some t ↦ is_used_later (renamed is k) rest ending | None ↦ other ]) ≡ false
    choose (Some t) other i f = f i
    choose None other i f = absurd (false≢true i)

module _ (p : PlainProgram) (core : PlainCore) (h : HasMemories p core) (around : Around) where
  abbrev Rightly : Scope → Run → PlainStmts → Ending → Type 0
  Rightly scope run rest ending = RunRight p core h around scope run rest ending

  pub run_keeps : (body : PlainStmts) (ending : Ending) (scope : Scope) (run : Run) → ((js : ℕ → Bool) → is_apart js ending ≡ false) → Rightly scope run body ending → IsTrue (is_inner body) → BodyTyped p scope body
      → Rightly (after_all scope body) (inner_run p.mems run body) no_stmt ending
  run_keeps no_stmt ending scope run apart g inner typed = g
  run_keeps (more_stmt (stmt place (declare m)) body) ending scope run apart g inner typed =
      run_keeps body ending (with_mem scope m) (with_reset p.mems run m) apart (reset_keeps p core h around true None scope run place body ending m g) inner typed.1
  run_keeps (more_stmt (stmt place (name w x)) body) ending scope run apart g inner typed =
      run_keeps body ending (with_val scope w (type_of x)) (with_named p.mems run w x None) apart
      (named_keeps p core h around true None scope run place body ending w x g typed.0.0 typed.0.1 (λ b u. false≢true (sym (never_later body ending (only w) inner apart) ∙ u))) inner typed.1
  run_keeps (more_stmt (stmt place (set_reg m e)) body) ending scope run apart g inner typed =
      run_keeps body ending scope (with_stmt p.mems true None run (set_reg m e)) apart
      (write_keeps p core h around true None scope run place body ending (set_reg m e) m Reg e g typed.0.0 refl (λ s. refl) refl typed.0.1 (λ v u. u) refl (λ v u. u)) inner typed.1
  run_keeps (more_stmt (stmt place (set_out m e)) body) ending scope run apart g inner typed =
      run_keeps body ending scope (with_stmt p.mems true None run (set_out m e)) apart
      (write_keeps p core h around true None scope run place body ending (set_out m e) m ArgOut e g typed.0.0 refl (λ s. refl) refl typed.0.1 (λ v u. u) refl (λ v u. u)) inner typed.1
  run_keeps (more_stmt (stmt place (set_sram m xs e)) body) ending scope run apart g inner typed =
      run_keeps body ending scope (with_stmt p.mems true None run (set_sram m xs e)) apart (sram_keeps p core h around true None scope run place body ending m xs e g typed.0) inner typed.1
  run_keeps (more_stmt (stmt place (enq m e)) body) ending scope run apart g inner typed =
      run_keeps body ending scope (with_stmt p.mems true None run (enq m e)) apart (enq_keeps p core h around true None scope run place body ending m e g typed.0) inner typed.1
  run_keeps (more_stmt (stmt place k) body) ending scope run apart g inner typed = absurd (false≢true inner)

-- how an inner body ends
abbrev pub ending_by : Combines → Ending
ending_by (folds acc comb e) = in_last_run e
ending_by (reduces acc begun comb e) = in_last_run e
ending_by _ = no_more

never_apart : (c : Combines) (js : ℕ → Bool) → is_apart js (ending_by c) ≡ false
never_apart nothing js = refl
never_apart (folds acc comb e) js = refl
never_apart (reduces acc begun comb e) js = refl
never_apart (reduces_elements part acc begun comb) js = refl

needs_same : (body : PlainStmts) (c : Combines) (v : ℕ) → used (only v) body (ending_by c) ≡ body_needs body c v
needs_same body nothing v = refl
needs_same body (folds acc comb e) v = refl
needs_same body (reduces acc begun comb e) v = refl
needs_same body (reduces_elements part acc begun comb) v = refl

module _ (p : PlainProgram) (core : PlainCore) (h : HasMemories p core) (around : Around) (scope : Scope) (sources : Sources) (loops : List PlainCounter) (body : PlainStmts) (inner : IsTrue (is_inner body)) (typed : BodyTyped p scope body) (count : ℕ)
    (counters : are_counters_right core around loops ≡ true) where
  abbrev inside : Around
  inside = within around loops (map (mem_number p.mems) (own_mems body))

  abbrev last : Run
  last = inner_run p.mems (no_run sources) body

  module _ (c : Combines) (g : MayNeed core inside p scope sources (body_needs body c)) (own : (m : ℕ) → Contains (own_mems body) m → MayOwn core inside p m) where
    first_right : RunRight p core h inside scope (no_run sources) body (ending_by c)
    first_right = record {
      right = refl;
      mems = g.mems;
      counters = g.counters;
      here = λ v x u. g.vals v x (sym (needs_same body c v.0) ∙ u);
      later = λ v x u. absurd (false≢true (sym (never_later body (ending_by c) (only v.0) inner (never_apart c)) ∙ u));
      waiting = own;
    }

    last_right : RunRight p core h inside (after_all scope body) last no_stmt (ending_by c)
    last_right = run_keeps p core h inside body (ending_by c) scope (no_run sources) (never_apart c) first_right inner typed

  -- a word after the body, and operations on it
  word_after : (e : PlainExpr) → RunRight p core h inside (after_all scope body) last no_stmt (in_last_run e) → Typed p (after_all scope body) e → (more : ℕ → ℕ → List PlainOp)
      → ((earlier : _) (word : ℕ) → gives earlier word (type_of e) ≡ true → are_operations_right_after core inside earlier (more (length earlier) word) ≡ true)
      → are_operations_right_after core inside [] (last.ops ++ (next_code p.mems last e).ops ++ more (length last.ops + length (next_code p.mems last e).ops) (next_code p.mems last e).word) ≡ true
  word_after e r t more f =
      let x : Code = next_code p.mems last e in
      let k = expr_keeps p core h inside (after_all scope body) last no_stmt (in_last_run e) r e t (λ v u. u) in
      let both = keep_others core inside [] last.ops x.ops [] (x.word ∷ []) [] (type_of e ∷ []) (right_so_far p core h inside (after_all scope body) last no_stmt (in_last_run e) r) k in
      let n : length (given_by (last.ops ++ x.ops)) ≡ length last.ops + length x.ops = given_length (last.ops ++ x.ops) ∙ length-append last.ops x.ops in
      let ops : List PlainOp = more (length last.ops + length x.ops) x.word in
      let third : Keep core inside (given_by (last.ops ++ x.ops)) ops [] [] = record { right = subst (λ m. are_operations_right_after core inside (given_by (last.ops ++ x.ops)) (more m x.word) ≡ true) n (f (given_by (last.ops ++ x.ops)) x.word (first_given core inside (given_by (last.ops ++ x.ops)) x.word (type_of e) both.give)); give = refl } in
      (keep_others core inside [] (last.ops ++ x.ops) ops [] [] [] [] (record { right = both.right; give = refl }) third).right

  pub inner_right : (c : Combines) → MayNeed core inside p scope sources (body_needs body c) → ((m : ℕ) → Contains (own_mems body) m → MayOwn core inside p m) → CombinesRightly p core inside (after_all scope body) c
      → is_node_right core around (inner_node p.mems count sources loops body c) ≡ true
  inner_right nothing g own r = and_from _ _ counters (last_right nothing g own).right
  inner_right (folds acc comb e) g own r = and_from _ _ counters
      (word_after e (last_right (folds acc comb e) g own) r.0 (λ at word. fold_ops at word acc (type_of e) comb) (λ earlier word given. fold_keeps core inside earlier word acc (type_of e) comb given r.1))
  inner_right (reduces acc begun comb e) g own r = and_from _ _ counters
      (word_after e (last_right (reduces acc begun comb e) g own) r.0 (λ at word. reduce_ops at word acc begun (type_of e) comb) (λ earlier word given. reduce_keeps core inside earlier word acc (type_of e) comb given r.1 begun r.2))
  inner_right (reduces_elements part acc begun comb) g own r = and_from _ _ counters (last_right (reduces_elements part acc begun comb) g own).right
