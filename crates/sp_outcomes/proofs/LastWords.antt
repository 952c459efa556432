-- The word that is combined at the end of a body: computed in its last run, or in the combination.
use Rattle.std.proofs.Common.{◌≡◌, ℕ, suc, false, List, [], ◌∷◌, ◌++◌, Option, Some, None, refl, ap, arith}
use Rattle.std.specs.Prelude.{length, Contains}
use Rattle.sp_tree.specs.Expressions.{word}
use Rattle.sp_tree.specs.PlainExpression.{PlainExpr, type_of}
use Rattle.sp_tree.specs.PlainProgram.{PlainProgram}
use Rattle.sp_tree.specs.PlainStatement.{PlainCounter, no_stmt}
use Rattle.sp_tree.specs.Step as step
use Rattle.sp_tree.specs.Store as program_store
use Rattle.sp_tree.specs.Typing.{Scope, Typed}
use Rattle.sp_core.specs.declared.operation.OpKind.TheVariants as kind
use Rattle.sp_core.specs.Elements.{are_inside}
use Rattle.sp_core.specs.History.{touched}
use Rattle.sp_core.specs.PlainCore.{PlainOp, PlainCore}
use Rattle.sp_core.specs.Store as store
use Rattle.sp_sugar.specs.Agreement.{HasMemories, View, at_run, Agree, GoOn}
use Rattle.sp_sugar.specs.Operations.{Code, read_op, write_op, alone, code}
use Rattle.sp_sugar.specs.Registers.{ending_of, at_end, registers}
use Rattle.sp_sugar.specs.Runs.{Run, next_code}
use Rattle.sp_sugar.specs.Stages.{run_stage, Combines, nothing, folds, reduces, reduces_elements, combination_stage, last_stages}
use Rattle.sp_sugar.specs.Uses.{Ending, in_last_run, in_combination}
use Rattle.sp_sugar.proofs.Follows.{follows}
use Rattle.sp_sugar.proofs.GoOnLemmas.{alone_on}
use Rattle.sp_sugar.proofs.MemoryLemmas.{core_reads, reg_word}
use Rattle.sp_sugar.proofs.NodeSteps.{ending_is}
use Rattle.sp_same.specs.Contents.{HoldRightly}
use Rattle.sp_bodies.specs.Bodies.{HaveRoomsAlike}
use Rattle.sp_bodies.proofs.Known.{known_found, known_more}
use Rattle.sp_bodies.proofs.StageSteps.{cells_from, Onward, run_onward}
use Rattle.sp_bodies.proofs.StagesGo.{Placed}
use Rattle.sp_bodies.proofs.Statements.{view_at, Standing, later_after, worked, all_too, holding, goes_too, agree_too}

last_count : (e : PlainExpr) → length (registers no_stmt (in_last_run e)) ≡ 1
unfolding registers
last_count e = refl

-- a loop combines words
abbrev pub IsOfWords : Combines → Type 0
IsOfWords (folds acc comb e) = Unit {0}
IsOfWords (reduces acc begun comb e) = Unit {0}
IsOfWords _ = ⊥

module _ (p : PlainProgram) (core : PlainCore) (h : HasMemories p core) (roomy : List ℕ) (rooms : HaveRoomsAlike p roomy core) (outer : View) (resets : (m : ℕ) → outer.resets m ≡ false) (most : ℕ) (waits : List ℕ) (scope : Scope) (e : PlainExpr) (typed : Typed p scope e)
    (run : Run) (n : ℕ) (kept : List (ℕ × Option ℕ)) (t : store.Store) (s : program_store.Store) (left turns w : ℕ) (s2 : program_store.Store) (goes : word p.mems e left s ≡ step.went w turns s2) (right : HoldRightly p scope.mems s2) where
  abbrev pub end_view : List (ℕ × Option ℕ) → View
  end_view registers = record outer { scope = scope; sources = run.values.elsewhere; waiting = waits; registers = registers }

  -- its word stands in a list of operations, after the last run
  pub record Worded (ending : Ending) (c : Combines) : Type 0 where
    pub code : Code
    pub registers : List (ℕ × Option ℕ)
    pub mid : store.Store
    pub more : (x : ℕ × Option ℕ) → Contains kept x → Contains registers x
    pub onward : Onward p core most outer.around (last_stages p.mems (length p.counters) run n ending c) (combination_stage p.mems (length p.counters) code c) t mid []
    pub turns_same : turns ≡ left
    pub given : GoOn p core (end_view registers) [] code.ops mid s2 (code.word ∷ []) (w ∷ [])

  -- in the combination
  apart_worded : (c : Combines) → IsOfWords c → Standing p core h outer scope waits (cells_from n (at_end (in_combination e))) kept run t s → Worded (in_combination e) c
  apart_worded c of_words g =
      let x : Code = code p.mems run.values.elsewhere 0 e in
      let a : Agree p core (end_view kept) [] s g.goes.after = record {
        mems = g.goes.agree.mems;
        vals = λ v d. known_found p core (end_view kept) [] g.goes.after (run.values.elsewhere v.0) (s.values v.0) g.goes.agree.registers (g.later v d);
        counts = g.goes.agree.counts;
        waiting = λ m d. let y = g.goes.agree.waiting m d in record { exists = y.exists; on_chip = y.on_chip; unseen = y.unseen; holds = y.holds };
        registers = g.goes.agree.registers;
      } in
      let f = follows p core h (end_view kept) e 0 [] s s2 g.goes.after left turns w refl typed a goes in
      record { code = x; registers = kept; mid = g.goes.after; more = λ y d. d; onward = by_kind c of_words x g.goes.after (run_onward p core most outer.around h outer s refl run.ops (combination_stage p.mems (length p.counters) x c) t g.goes.after g.goes.all g.goes.goes); turns_same = f.0; given = f.1 }
    where
      by_kind : (c : Combines) → IsOfWords c → (x : Code) (u : store.Store) → Onward p core most outer.around (run_stage run.ops (combination_stage p.mems (length p.counters) (code p.mems run.values.elsewhere 0 e) c)) (combination_stage p.mems (length p.counters) x c) t u [] → Onward p core most outer.around (last_stages p.mems (length p.counters) run n (in_combination e) c) (combination_stage p.mems (length p.counters) x c) t u []
      by_kind (folds acc comb z) i x u f = f
      by_kind (reduces acc begun comb z) i x u f = f
      by_kind nothing i x u f = absurd i
      by_kind (reduces_elements part acc begun comb) i x u f = absurd i

  -- in the last run, from which it crosses
  crossed : (c : Combines) → IsOfWords c → (g : Standing p core h outer scope waits (cells_from n (at_end (in_last_run e))) kept run t s) → Placed p core h roomy rooms outer resets most waits scope run n no_stmt (in_last_run e) kept → Worded (in_last_run e) c
  crossed c of_words g place =
      let x : Code = next_code p.mems run e in
      let fresh : List (ℕ × Option ℕ) = (n, None) ∷ [] in
      let named : HoldRightly p scope.mems (program_store.name_value s2 0 w) = right in
      let regs : List (ℕ × Option ℕ) = (n, Some w) ∷ kept in
      let clear : (y : ℕ × Option ℕ) → Contains ([] ++ kept) y → y.0 ≡ n → ⊥ = λ y d i. place.clear y d n (omega arith) (omega (arith, last_count e)) i in
      let mid : store.Store = holding p core h outer scope waits fresh kept run t s g 0 e typed left turns w s2 goes named n [] refl place.here_before clear in
      let a = agree_too p core h outer scope waits fresh kept run t s g 0 e typed left turns w s2 goes named n [] refl place.here_before clear in
      let ops : List PlainOp = run.ops ++ x.ops ++ write_op (type_of e) n (x.word ∷ []) ∷ [] in
      let done = worked p core h outer scope waits fresh kept run t s g 0 e typed left turns w s2 goes named in
      let later = later_after p core h outer scope waits fresh kept run t s g (run.ops ++ x.ops) x.ops refl s2 (x.word ∷ []) (w ∷ []) done in
      let b : Agree p core (end_view regs) [] s2 mid = record {
        mems = a.mems;
        vals = λ v d. known_found p core (end_view regs) [] mid (run.values.elsewhere v.0) (s2.values v.0) a.registers
            (known_more outer.around kept regs (run.values.elsewhere v.0) (s2.values v.0) (λ y i. (suc i.0, omega (arith, i.1), i.2)) (later v d));
        counts = a.counts;
        waiting = λ m d. let y = a.waiting m d in record { exists = y.exists; on_chip = y.on_chip; unseen = y.unseen; holds = y.holds };
        registers = a.registers;
      } in
      let cell = a.registers (n, Some w) (0, omega arith, refl) in
      let read : Code = alone 0 (read_op (type_of e) n []) in
      record {
        code = read;
        registers = regs;
        mid = mid;
        more = λ y i. (suc i.0, omega (arith, i.1), i.2);
        onward = by_kind c of_words mid (run_onward p core most outer.around h outer s refl ops (combination_stage p.mems (length p.counters) read c) t mid (all_too p core h outer scope waits fresh kept run t s g 0 e typed left turns w s2 goes named n [] refl place.here_before clear)
            (goes_too p core h outer scope waits fresh kept run t s g 0 e typed left turns w s2 goes named n [] refl place.here_before clear));
        turns_same = (follows p core h (at_run (view_at p core h outer scope waits (fresh ++ kept)) run) e (length run.ops) g.goes.all s s2 g.goes.after left turns w (omega (arith, g.goes.counted)) typed g.goes.agree goes).0;
        given = alone_on p core (end_view regs) [] mid s2 s2 kind.Read (type_of e) (Some n) (touched [] w) mid 0 b
            (core_reads core n [] mid w (ap (λ d. are_inside d []) cell.0.has_none) (reg_word core n (mid n) _ cell.0.is_kind cell.1)) b refl;
      }
    where
      by_kind : (c : Combines) → IsOfWords c → (u : store.Store)
          → Onward p core most outer.around (run_stage (run.ops ++ (next_code p.mems run e).ops ++ write_op (type_of e) n ((next_code p.mems run e).word ∷ []) ∷ []) (combination_stage p.mems (length p.counters) (alone 0 (read_op (type_of e) n [])) c)) (combination_stage p.mems (length p.counters) (alone 0 (read_op (type_of e) n [])) c) t u []
          → Onward p core most outer.around (last_stages p.mems (length p.counters) run n (in_last_run e) c) (combination_stage p.mems (length p.counters) (alone 0 (read_op (type_of e) n [])) c) t u []
      by_kind (folds acc comb z) i u f = f
      by_kind (reduces acc begun comb z) i u f = f
      by_kind nothing i u f = absurd i
      by_kind (reduces_elements part acc begun comb) i u f = absurd i

  -- by how the body ends
  pub word_stands : (loops : List PlainCounter) (c : Combines) → IsOfWords c → Standing p core h outer scope waits (cells_from n (at_end (ending_of loops e))) kept run t s → Placed p core h roomy rooms outer resets most waits scope run n no_stmt (ending_of loops e) kept → Worded (ending_of loops e) c
  word_stands loops c of_words =
      ending_is (λ ending. Standing p core h outer scope waits (cells_from n (at_end ending)) kept run t s → Placed p core h roomy rooms outer resets most waits scope run n no_stmt ending kept → Worded ending c) loops e
      (λ g place. apart_worded c of_words g) (λ g place. crossed c of_words g place)
