-- Controllers do what their statements do, where their bodies do.
use Rattle.std.proofs.Common.{◌≡◌, ℕ, ◌+◌, ◌≤◌, Bool, true, false, List, [], ◌∷◌, ◌++◌, None, refl, sym, ◌∙◌, ap, subst, arith, if◌then◌else◌, ◌==◌}
use Rattle.std.specs.Prelude.{map, length}
use Rattle.sp_words.specs.declared.kind.Style.{Style}
use Rattle.sp_words.specs.declared.kind.Style.TheVariants.{Pipe}
use Rattle.sp_words.specs.declared.types.Ty.TheVariants.{Bit}
use Rattle.sp_tree.specs.Expressions.{word}
use Rattle.sp_tree.specs.PlainExpression.{PlainExpr}
use Rattle.sp_tree.specs.PlainProgram.{PlainProgram}
use Rattle.sp_tree.specs.PlainStatement.{PlainCounter, PlainStmts, block, foreach, branch}
use Rattle.sp_tree.specs.Sequential.{keep_depth, end_block, run_kind, run_all}
use Rattle.sp_tree.specs.Shape as program_shape
use Rattle.sp_tree.specs.Shape.{shapes, ran, branched}
use Rattle.sp_tree.specs.Step as step
use Rattle.sp_tree.specs.Store as program_store
use Rattle.sp_tree.specs.Streams.{fifos_with_room}
use Rattle.sp_tree.specs.Structure.{own_mems, is_inner}
use Rattle.sp_tree.specs.Typing.{HasTypeStill, CountersTyped, BodyTyped, with_counters}
use Rattle.sp_core.specs.History.{History, branch_ran, last_word}
use Rattle.sp_core.specs.Operations.{operations}
use Rattle.sp_core.specs.PlainCore as plain
use Rattle.sp_core.specs.PlainCore.{PlainNode, PlainStages, PlainCore, inner, outer}
use Rattle.sp_core.specs.Scope as counters
use Rattle.sp_core.specs.Scope.{plainly}
use Rattle.sp_core.specs.Sequential.{run}
use Rattle.sp_core.specs.Shape.{shape_of}
use Rattle.sp_core.specs.Step as core_step
use Rattle.sp_core.specs.Store as store
use Rattle.sp_sugar.specs.Agreement.{HasMemories, View, Agree}
use Rattle.sp_sugar.specs.Early.{is_early, bounds_of, counters_of}
use Rattle.sp_sugar.specs.Numbers.{mem_number}
use Rattle.sp_sugar.specs.Operations.{word_list}
use Rattle.sp_sugar.specs.Registers.{registers_in, owned_registers}
use Rattle.sp_sugar.specs.Runs.{no_run, inner_run}
use Rattle.sp_sugar.specs.Stages.{nothing, style_of, stages, node}
use Rattle.sp_sugar.specs.Uses.{no_more}
use Rattle.sp_sugar.proofs.NumberLemmas.{either}
use Rattle.sp_sugar.proofs.StepLemmas.{same_answer, same_store, taken_apart, then_on}
use Rattle.sp_same.specs.Contents.{HoldRightly}
use Rattle.sp_same.specs.Counts.{Count, taken, counts_in, counts_in_all, counts_of}
use Rattle.sp_same.specs.Following.{SourcesSeen, AreReady, NodeGoes, BodyFollowedRightly, alone}
use Rattle.sp_same.proofs.LaneZero.{of_stages}
use Rattle.sp_same.proofs.LoopNodes.{no_more_counts, inner_goes, outer_goes}
use Rattle.sp_same.proofs.StillWords.{word_still}
use Rattle.sp_same.proofs.WordsTaken.{word_taken}

chosen_of : (P Q : PlainNode → Type 0) (b : Bool) (one two with_one with_two : PlainNode) → (b ≡ true → P one → Q with_one) → (b ≡ false → P two → Q with_two) → P (if b then one else two) → Q (if b then with_one else with_two)
chosen_of P Q true one two with_one with_two f g x = f refl x
chosen_of P Q false one two with_one with_two f g x = g refl x

module _ (p : PlainProgram) (core : PlainCore) (roomy : List ℕ) (most : ℕ) (view : View) (b n place : ℕ) (s after : program_store.Store) (t : store.Store) (left rest : ℕ) (did : List program_shape.Shape) (enough : left ≤ most) (right : HoldRightly p view.scope.mems s) (a : Agree p core view [] s t) where
  pub loop_goes : (h : HasMemories p core) (style : Style) (loops : List PlainCounter) (body : PlainStmts) → CountersTyped p view.scope loops → BodyTyped p (with_counters view.scope loops) body → SourcesSeen view.scope view.sources → AreReady p core is_early left s t b (bounds_of loops)
      → ((around : counters.Scope) → BodyFollowedRightly p core roomy most (record view { scope = with_counters view.scope loops; around = around }) (alone p view.sources n style body) body)
      → run_kind p.mems roomy (foreach style loops body) place left s ≡ step.went did rest after
      → NodeGoes p core most view (node p.mems (length p.counters) view.sources b n (foreach style loops body)) t after did
  unfolding node
  loop_goes h style [] body typed typed_body seen ready followed e = absurd (omega (arith, typed.one_to_four.0))
  loop_goes h style (c ∷ loops) body typed typed_body seen ready followed e =
      let all : PlainStages = stages p.mems (length p.counters) (no_run view.sources) n body no_more nothing in
      let ops : List plain.PlainOp = (inner_run p.mems (no_run view.sources) body).ops in
      let owned : List ℕ = map (mem_number p.mems) (own_mems body) in
      let cs : List plain.PlainCounter = counters_of p.mems view.sources b (c ∷ loops) in
      chosen_of (λ x. (around : counters.Scope) → BodyFollowedRightly p core roomy most (record view { scope = with_counters view.scope (c ∷ loops); around = around }) x body) (λ x. NodeGoes p core most view x t after did) (is_inner body)
      (inner [] owned ops None) (outer [] style (owned ++ owned_registers n body no_more) all) (inner cs owned ops None) (outer cs style (owned ++ owned_registers n body no_more) all)
      (λ f x. inner_goes p core h roomy most view seen b (c ∷ loops) typed body typed_body style place rest left s after t did a right ready enough e owned ops None _ _ refl x)
      (λ f x. outer_goes p core h roomy most view seen b (c ∷ loops) typed body typed_body style place rest left s after t did a right ready enough e style (owned ++ owned_registers n body no_more) all _ _ (of_stages p.mems (length p.counters) (no_run view.sources) n body no_more nothing) refl x)
      followed

  pub block_goes : (style : Style) (body : PlainStmts) → fifos_with_room p.mems style body ≡ []
      → BodyFollowedRightly p core roomy most view (alone p view.sources n (style_of p.mems (length p.counters) style body) body) body
      → run_kind p.mems roomy (block style body) place left s ≡ step.went did rest after
      → NodeGoes p core most view (node p.mems (length p.counters) view.sources b n (block style body)) t after did
  unfolding node run_kind step.in_order step.pure counts_in counts_in_all
  block_goes style body none followed e =
      let x = taken_apart (run_all p.mems roomy body) (λ did. step.◌>>◌ (end_block p.mems style body place) (step.pure (ran (shapes did) ∷ []))) left s did rest after e in
      let y = taken_apart (end_block p.mems style body place) (λ _. step.pure (ran (shapes x.answer) ∷ [])) x.between x.store did rest after x.second in
      let ends : step.in_order (λ m. keep_depth p.mems m place) [] x.between x.store ≡ step.went y.answer y.between y.store = ap (λ l. step.in_order (λ m. keep_depth p.mems m place) l x.between x.store) (sym none) ∙ y.first in
      let same : x.store ≡ after = same_store [] y.answer x.between y.between x.store y.store ends ∙ same_store (ran (shapes x.answer) ∷ []) did y.between rest y.store after y.second in
      let goes = followed s x.store t left x.between x.answer enough right a x.first in
      record {
        history = goes.history;
        after = goes.after;
        goes = goes.goes;
        agree = subst (λ v. Agree p core view [] v goes.after) same goes.agree;
        counts = goes.counts ∙ sym (no_more_counts (counts_in_all (shapes x.answer))) ∙ ap (λ l. counts_in_all (shapes l)) (same_answer (ran (shapes x.answer) ∷ []) did y.between rest y.store after y.second);
      }

  pub branch_goes : (h : HasMemories p core) (test : PlainExpr) (first second : PlainStmts) → HasTypeStill p view.scope Bit test
      → BodyFollowedRightly p core roomy most view (alone p view.sources n Pipe first) first
      → BodyFollowedRightly p core roomy most view (alone p view.sources (n + length (registers_in first no_more)) Pipe second) second
      → run_kind p.mems roomy (branch test first second) place left s ≡ step.went did rest after
      → NodeGoes p core most view (node p.mems (length p.counters) view.sources b n (branch test first second)) t after did
  unfolding node run_kind run step.pure core_step.pure shape_of counts_of counts_in counts_in_all
  branch_goes h test first second typed one two e =
      let m : ℕ = n + length (registers_in first no_more) in
      let chosen : Bool → step.Step (List program_shape.Shape) = λ b. elim b as (λ _. step.Step (List program_shape.Shape)) [ true ↦ run_all p.mems roomy first | false ↦ run_all p.mems roomy second ] in
      let x = taken_apart (word p.mems test) (λ w. step.◌>>=◌ (chosen (w == 1)) (λ did. step.pure (branched (w == 1) (ran (shapes did)) ∷ []))) left s did rest after e in
      let still = word_still p view.scope test left x.between x.answer s x.store typed.0.0 typed.1 x.first in
      let taken_word = word_taken p core h view test s x.store t left x.between x.answer typed.0.0 typed.1 a x.first in
      let y = taken_apart (chosen (x.answer == 1)) (λ did. step.pure (branched (x.answer == 1) (ran (shapes did)) ∷ [])) x.between x.store did rest after x.second in
      let fewer : x.between ≤ most = subst (λ k. k ≤ most) (sym still.0) enough in
      let here : Agree p core view [] x.store t = subst (λ v. Agree p core view [] v t) (sym still.1) a in
      let right_here : HoldRightly p view.scope.mems x.store = subst (HoldRightly p view.scope.mems) (sym still.1) right in
      let ends : y.store ≡ after = same_store (branched (x.answer == 1) (ran (shapes y.answer)) ∷ []) did y.between rest y.store after y.second in
      let shaped : branched (x.answer == 1) (ran (shapes y.answer)) ∷ [] ≡ did = same_answer (branched (x.answer == 1) (ran (shapes y.answer)) ∷ []) did y.between rest y.store after y.second in
      let ops : List plain.PlainOp = word_list p.mems view.sources test in
      let node_one : PlainNode = alone p view.sources n Pipe first in
      let node_two : PlainNode = alone p view.sources m Pipe second in
      let es = taken_word.0 in
      let core_chosen : Bool → core_step.Step History = λ b. elim b as (λ _. core_step.Step History) [ true ↦ run core plainly most node_one view.around | false ↦ run core plainly most node_two view.around ] in
      let begins : (b : Bool) → (x.answer == 1) ≡ b → (core_step.◌>>=◌ (operations core view.around ops) (λ es. core_step.◌>>=◌ (core_chosen (last_word es == 1)) (λ h. core_step.pure (branch_ran es (last_word es == 1) h)))) t ≡ (core_step.◌>>=◌ (core_chosen b) (λ h. core_step.pure (branch_ran es b h))) t =
      λ b f. then_on (operations core view.around ops) (λ es. core_step.◌>>=◌ (core_chosen (last_word es == 1)) (λ h. core_step.pure (branch_ran es (last_word es == 1) h))) t es t taken_word.1
      ∙ ap (λ c. (core_step.◌>>=◌ (core_chosen c) (λ h. core_step.pure (branch_ran es c h))) t) (ap (λ w. w == 1) taken_word.2 ∙ f) in
      let counted : (b : Bool) (cs : List Count) → (x.answer == 1) ≡ b → cs ≡ counts_in_all (shapes y.answer) → taken b ∷ cs ≡ counts_in_all (shapes did) =
      λ b cs f g. ap (λ l. taken b ∷ l) (g ∙ sym (no_more_counts (counts_in_all (shapes y.answer)))) ∙ ap (λ c. counts_in_all (shapes (branched c (ran (shapes y.answer)) ∷ []))) (sym f) ∙ ap (λ l. counts_in_all (shapes l)) shaped in
      either (x.answer == 1)
      (λ f. let goes = one x.store y.store t x.between y.between y.answer fewer right_here here (ap (λ b. chosen b x.between x.store) (sym f) ∙ y.first) in
      record {
        history = branch_ran es true goes.history;
        after = goes.after;
        goes = begins true f ∙ then_on (run core plainly most node_one view.around) (λ h. core_step.pure (branch_ran es true h)) t goes.history goes.after goes.goes;
        agree = subst (λ v. Agree p core view [] v goes.after) ends goes.agree;
        counts = counted true (counts_of node_one (shape_of node_one goes.history)) f goes.counts;
      })
      (λ f. let goes = two x.store y.store t x.between y.between y.answer fewer right_here here (ap (λ b. chosen b x.between x.store) (sym f) ∙ y.first) in
      record {
        history = branch_ran es false goes.history;
        after = goes.after;
        goes = begins false f ∙ then_on (run core plainly most node_two view.around) (λ h. core_step.pure (branch_ran es false h)) t goes.history goes.after goes.goes;
        agree = subst (λ v. Agree p core view [] v goes.after) ends goes.agree;
        counts = counted false (counts_of node_two (shape_of node_two goes.history)) f goes.counts;
      })
