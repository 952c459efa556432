-- A MemReduce does what its statement does.
use Rattle.std.proofs.Common.{◌≡◌, ℕ, zero, suc, ◌+◌, ◌<◌, ◌≤◌, Bool, true, false, List, [], ◌∷◌, ◌++◌, Option, Some, refl, sym, ◌∙◌, ap, subst, arith}
use Rattle.std.specs.Prelude.{length, map, Contains, All}
use Rattle.sp_words.specs.declared.kind.Kind.TheVariants.{Sram}
use Rattle.sp_words.specs.declared.kind.Style.{Style}
use Rattle.sp_words.specs.declared.types.Ty.{Ty}
use Rattle.sp_words.specs.Interface.{IsCount}
use Rattle.sp_words.specs.Memory.{cells}
use Rattle.sp_tree.specs.declared.statement.Comb.{Comb}
use Rattle.sp_tree.specs.Expressions as expressions
use Rattle.sp_tree.specs.Operators.{bit}
use Rattle.sp_tree.specs.PlainProgram.{PlainProgram, no_mem}
use Rattle.sp_tree.specs.PlainStatement.{PlainCounter, PlainStmts, stmt, declare, name, mem_reduce, no_stmt, more_stmt}
use Rattle.sp_tree.specs.Sequential.{count_now, assign_all, run_kind, run_all}
use Rattle.sp_tree.specs.Shape as program_shape
use Rattle.sp_tree.specs.Shape.{shapes, ran as ran_shape}
use Rattle.sp_tree.specs.Step as step
use Rattle.sp_tree.specs.Store as program_store
use Rattle.sp_tree.specs.Structure.{own_mems, mems_declared}
use Rattle.sp_tree.specs.Typing.{Scope, with_counters, IsMem, CountersTyped, BodyTyped, after as scope_after, after_all}
use Rattle.sp_core.specs.Declarations.{is_stream}
use Rattle.sp_core.specs.History.{Runs, no_run as none_ran}
use Rattle.sp_core.specs.PlainCore.{PlainNode, PlainStages, PlainCore, no_stage, more_stage}
use Rattle.sp_core.specs.Scope as counters
use Rattle.sp_core.specs.Scope.{Loop, plainly, is_live, in_group}
use Rattle.sp_core.specs.Sequential.{renew, end_of_group, run_stages}
use Rattle.sp_core.specs.Shape.{stage_shapes}
use Rattle.sp_core.specs.Step as core_step
use Rattle.sp_core.specs.Store as store
use Rattle.sp_sugar.specs.Agreement.{HasMemories, View, IsAdded, Finds, Apart, Agree}
use Rattle.sp_sugar.specs.Combination.{element_loop}
use Rattle.sp_sugar.specs.Early.{is_early, bounds_of, counters_of}
use Rattle.sp_sugar.specs.Numbers.{mem_number}
use Rattle.sp_sugar.specs.Registers.{registers, owned_registers}
use Rattle.sp_sugar.specs.Runs.{no_run}
use Rattle.sp_sugar.specs.Stages.{Combines, reduces_elements, last_stages, outer_node, stages}
use Rattle.sp_sugar.specs.Uses.{no_more}
use Rattle.sp_sugar.proofs.Entering.{same_mems, same_vals}
use Rattle.sp_sugar.proofs.MemoryLemmas.{changed_here}
use Rattle.sp_sugar.proofs.StepLemmas.{same_answer, same_left, same_store, taken_apart, then_on}
use Rattle.sp_same.specs.Contents.{HoldRightly}
use Rattle.sp_same.specs.Counts.{counts_in, counts_in_all, stage_counts}
use Rattle.sp_same.specs.Following.{SourcesSeen, AreSpare, IsOwn, AreReady, NodeGoes}
use Rattle.sp_same.proofs.Counting.{enter, outside, leave}
use Rattle.sp_same.proofs.Groups.{outer_group, first_is_live}
use Rattle.sp_same.proofs.InnerBodies.{after_mems}
use Rattle.sp_same.proofs.LoopNodes.{no_more_counts}
use Rattle.sp_same.proofs.Reductions.{first_counter}
use Rattle.sp_same.proofs.Registers.{agree_written, agree_kept}
use Rattle.sp_same.proofs.Rightly.{keep_turn, keep_counts, keep_elements_after, body_rightly}
use Rattle.sp_same.proofs.Turns.{turn_falls, body_falls}
use Rattle.sp_bodies.specs.Bodies.{HaveRoomsAlike, AreDeclared, AreStagesFollowed}
use Rattle.sp_bodies.proofs.BodyNodes.{agree_out, vals_out, all_stages, kept_registers, begun as first_store, kept_here, owned, quiet_end}
use Rattle.sp_bodies.proofs.BodyStarts.{renewed}
use Rattle.sp_bodies.proofs.Known.{Known, known_found}
use Rattle.sp_bodies.proofs.StageSteps.{then_onward, run_onward}
use Rattle.sp_bodies.proofs.StagesGo.{Ended}
use Rattle.sp_bodies.proofs.Statements.{fewer_registers}
use Rattle.sp_outcomes.proofs.CombiningLoops.{Followed, loop_goes}
use Rattle.sp_outcomes.proofs.ElementNode.{Node_went, node_went}
use Rattle.sp_outcomes.proofs.ElementView.{scope_with, between}
use Rattle.sp_outcomes.proofs.StageReductions.{seen_within, combined_onward}

-- what a body declares itself is visible at its end
pub own_seen : (S : Scope) (body : PlainStmts) (m : ℕ) → Contains (own_mems body) m → Contains (after_all S body).mems m
own_seen S no_stmt m c = absurd (omega (arith, c.1))
own_seen S (more_stmt (stmt place (declare k)) rest) m (zero, lt, e) = after_mems (scope_after S (declare k)) rest m (0, omega arith, e)
own_seen S (more_stmt (stmt place (declare k)) rest) m (suc j, lt, e) = own_seen (scope_after S (declare k)) rest m (j, omega (arith, lt), e)
own_seen S (more_stmt (stmt place (name v e)) rest) m c = own_seen (scope_after S (name v e)) rest m c
own_seen S (more_stmt (stmt place k) rest) m c = own_seen S rest m c

module _ (p : PlainProgram) (core : PlainCore) (h : HasMemories p core) (roomy : List ℕ) (rooms : HaveRoomsAlike p roomy core) (most : ℕ) (view : View) (seen : SourcesSeen view.scope view.sources) (loops : List PlainCounter) (body : PlainStmts) (n part acc : ℕ) (comb : Comb) (begun : ℕ) (place : ℕ)
    (style : Style) (quiet : is_stream style ≡ false) (body_typed : BodyTyped p (with_counters view.scope loops) body) (is_acc : IsMem p view.scope acc Sram (expressions.mem p.mems acc).ty)
    (own_part : Contains (own_mems body) part) (part_kind : (expressions.mem p.mems part).kind ≡ Sram) (part_type : (expressions.mem p.mems part).ty ≡ (expressions.mem p.mems acc).ty) (part_dims : expressions.dims p.mems part ≡ expressions.dims p.mems acc)
    (spare : AreSpare n (n + length (registers body no_more)) view) (declared : AreDeclared p core n (registers body no_more)) (own : (m : ℕ) → Contains (mems_declared body) m → IsOwn p (with_counters view.scope loops) m)
    (apart : Apart (mems_declared body ++ view.waiting)) (resets : (m : ℕ) → view.resets m ≡ false) (followed : AreStagesFollowed p roomy core body) (added : IsAdded p core begun) (begun_spare : AreSpare begun (suc begun) view) (before : begun < n) where
  abbrev inside : counters.Scope → List (ℕ × Option ℕ) → View
  inside around regs = record view { scope = with_counters view.scope loops; around = around; registers = regs }

  -- what the register holds between two iterations, by whether the next one combines
  abbrev Begun_now : (combines : Bool) → store.Store → Type 0
  Begun_now b t = t begun ≡ Some (cells (Some (bit b) ∷ []))

  abbrev with_begun : (combines : Bool) → counters.Scope → View
  with_begun b around = inside around ((begun, Some (bit b)) ∷ view.registers)

  spare_within : (b : Bool) (around : counters.Scope) → AreSpare n (n + length (registers body no_more)) (with_begun b around)
  spare_within b around = (λ v c. spare.0 v (subst (λ l. Contains l v) (same_vals view.scope loops) c), λ x c k le lt i. others x c k le lt i)
    where
      others : (x : ℕ × Option ℕ) → Contains ((begun, Some (bit b)) ∷ view.registers) x → (k : ℕ) → n ≤ k → k < n + length (registers body no_more) → x.0 ≡ k → ⊥
      others x (zero, lt2, j) k le lt i = let q : begun ≡ x.0 = ap (λ (y : ℕ × Option ℕ). y.0) j in omega (arith, q, i, le, before)
      others x (suc d, lt2, j) k le lt i = spare.1 x (d, omega (arith, lt2), j) k le lt i

  abbrev c : Combines
  c = reduces_elements part (mem_number p.mems acc) begun comb

  abbrev pub whole : PlainStages
  whole = stages p.mems (length p.counters) (no_run view.sources) n body no_more c

  -- one group
  module _ (b : Bool) (around : counters.Scope) (s1 s2 after : program_store.Store) (t : store.Store) (left middle rest : ℕ) (al : List (Unit {0})) (did : List program_shape.Shape)
      (enough : left ≤ most) (right : HoldRightly p (with_counters view.scope loops).mems s1) (a : Agree p core (with_begun b around) [] s1 t)
      (ran_on : run_all p.mems roomy body left s1 ≡ step.went did middle s2) (assigns : assign_all p.mems comb acc part b place middle s2 ≡ step.went al rest after) where
    abbrev V : View
    V = with_begun b around

    abbrev start : store.Store
    start = first_store p core h roomy rooms most V body no_more n body_typed (seen_within view.scope view.sources loops seen) (spare_within b around) declared own apart resets followed s1 t right a s2 left middle did enough ran_on

    abbrev kept0 : List (ℕ × Option ℕ)
    kept0 = kept_here p core h roomy rooms most V body no_more n body_typed (seen_within view.scope view.sources loops seen) (spare_within b around) declared own apart resets followed s1 t right a s2 left middle did enough ran_on

    abbrev its_owned : List ℕ
    its_owned = owned p core h roomy rooms most V body no_more n body_typed (seen_within view.scope view.sources loops seen) (spare_within b around) declared own apart resets followed s1 t right a s2 left middle did enough ran_on

    kept_all : (x : ℕ × Option ℕ) → Contains V.registers x → Contains kept0 x
    kept_all = kept_registers p core h roomy rooms most V body no_more n body_typed (seen_within view.scope view.sources loops seen) (spare_within b around) declared own apart resets followed s1 t right a s2 left middle did enough ran_on

    z : Ended p core h roomy rooms V resets most view.waiting V.scope.vals view.sources (after_all V.scope body) no_more c whole kept0 start s2 did
    z = all_stages p core h roomy rooms most V body no_more n body_typed (seen_within view.scope view.sources loops seen) (spare_within b around) declared own apart resets followed s1 t right a s2 left middle did enough ran_on c

    -- at the end of the body, without values
    abbrev ms : List ℕ
    ms = (after_all V.scope body).mems

    abbrev E : View
    E = record V { scope = after_all V.scope body; sources = z.run.values.elsewhere; waiting = view.waiting; registers = z.kept_end }

    abbrev E0 : View
    E0 = between p core h ms around view.waiting view.resets z.kept_end

    ended : Agree p core E0 [] s2 z.standing.goes.after
    ended = record {
      mems = z.standing.goes.agree.mems;
      vals = λ v d. absurd (omega (arith, d.1));
      counts = λ k d. absurd (omega (arith, d.1));
      waiting = λ m d. let x = z.standing.goes.agree.waiting m d in record { exists = x.exists; on_chip = x.on_chip; unseen = x.unseen; holds = x.holds };
      registers = z.standing.goes.agree.registers;
    }

    abbrev ds : List ℕ
    ds = expressions.dims p.mems part

    abbrev ty : Ty
    ty = (expressions.mem p.mems part).ty

    part_there : IsMem p (scope_with p ms (length ds)) part Sram ty
    part_there = record { seen = own_seen V.scope body part own_part; is_kind = part_kind; is_type = refl }

    acc_there : IsMem p (scope_with p ms (length ds)) acc Sram ty
    acc_there = record { seen = after_mems V.scope body acc (subst (λ l. Contains l acc) (sym (same_mems view.scope loops)) is_acc.seen); is_kind = is_acc.is_kind; is_type = sym part_type }

    counts : All IsCount ds
    counts = (h.declared part no_mem (z.standing.goes.agree.mems part part_there.seen).0).dims

    kept : Contains z.kept_end (begun, Some (bit b))
    kept = z.more (begun, Some (bit b)) (kept_all (begun, Some (bit b)) (0, omega arith, refl))

    w : Node_went p core h most ms around view.waiting view.resets z.kept_end part acc begun ty comb place counts part_there acc_there (sym part_dims) added s2 after z.standing.goes.after middle rest
    w = node_went p core h most ms around view.waiting view.resets z.kept_end part acc begun ty comb place counts part_there acc_there (sym part_dims) added b kept middle rest s2 after z.standing.goes.after al ended assigns

    fewer : rest ≤ middle
    fewer = w.fewer

    abbrev end : store.Store
    end = store.hold w.end begun (cells (Some 1 ∷ []))

    -- values stand where they stood
    values_there : Agree p core E [] after w.end
    values_there = record {
      mems = w.agree.mems;
      vals = λ v d. known_found p core E [] w.end (z.run.values.elsewhere v.0) (after.values v.0) w.agree.registers (subst (Known around z.kept_end (z.run.values.elsewhere v.0)) (sym (w.stay.0 v.0)) (z.standing.later v d));
      counts = λ k d. z.standing.goes.agree.counts k d ∙ sym (w.stay.1 k);
      waiting = λ m d. let x = w.agree.waiting m d in record { exists = x.exists; on_chip = x.on_chip; unseen = x.unseen; holds = x.holds };
      registers = w.agree.registers;
    }

    values_out : (v : ℕ × Ty) → Contains V.scope.vals v → Finds p core around [] w.end (view.sources v.0) (after.values v.0)
    values_out v d = subst (Finds p core around [] w.end (view.sources v.0)) (sym (w.stay.0 v.0))
        (vals_out p core h roomy rooms most V body no_more n body_typed (seen_within view.scope view.sources loops seen) (spare_within b around) declared own apart resets followed c kept0 whole start s2 did z w.end w.agree.registers v d)

    out : Agree p core V [] after w.end
    out = agree_out p core h roomy rooms most V body no_more n body_typed (seen_within view.scope view.sources loops seen) (spare_within b around) declared own apart resets followed c kept0 whole start s2 did z kept_all E [] w.end refl refl refl refl (λ x d. d) after values_out values_there

    written : Agree p core (inside around view.registers) [] after end
    written = agree_written p core h (inside around view.registers) [] after w.end begun 1 added (λ v d. begun_spare.0 v (subst (λ l. Contains l v) (same_vals view.scope loops) d), begun_spare.1)
        (fewer_registers p core h view V view.registers [] after w.end (λ x d. (suc d.0, omega (arith, d.1), d.2)) out)

    -- the group
    group_goes : (live : ℕ → Bool) → live 0 ≡ true → (x : Runs) × (u : store.Store) × (outer_group core most style its_owned whole live around t ≡ core_step.went x u) × Agree p core (inside around view.registers) [] after u × Begun_now true u × (stage_counts whole (stage_shapes whole x) ≡ counts_in_all (shapes did))
    unfolding run_stages stage_shapes stage_counts core_step.pure
    group_goes live l =
        let node : PlainNode = element_loop p.mems (length p.counters) ds part (mem_number p.mems acc) begun ty comb in
        let comb_stage : PlainStages = more_stage 0 0 true node no_stage in
        let last : PlainStages = last_stages p.mems (length p.counters) z.run z.n no_more c in
        let on = then_onward p core most around whole last no_stage start z.end end (counts_in_all (shapes did)) [] z.onward
        (then_onward p core most around last comb_stage no_stage z.end z.standing.goes.after end [] [] (run_onward p core most around h V s2 refl z.run.ops comb_stage z.end z.standing.goes.after z.standing.goes.all z.standing.goes.goes) (combined_onward p core most around node w.history z.standing.goes.after end w.goes)) in
        let x = on live none_ran end l refl in
        let renewed_here = renewed p core h roomy rooms most V body no_more n body_typed (seen_within view.scope view.sources loops seen) (spare_within b around) declared own apart resets s1 t right a in (
          x.0,
          end,
          then_on (core_step.in_order (renew core plainly most) its_owned) (λ _. core_step.◌>>=◌ (run_stages core plainly most whole live around) (λ runs. core_step.◌>>◌ (end_of_group core plainly most style its_owned) (core_step.pure runs))) t _ start renewed_here
              ∙ then_on (run_stages core plainly most whole live around) (λ runs. core_step.◌>>◌ (end_of_group core plainly most style its_owned) (core_step.pure runs)) start x.0 end x.1
              ∙ then_on (end_of_group core plainly most style its_owned) (λ _. core_step.pure x.0) end [] end (quiet_end core most style its_owned end quiet),
          written,
          changed_here w.end begun begun (Some (cells (Some 1 ∷ []))) refl,
          x.2 ∙ no_more_counts (counts_in_all (shapes did) ++ []) ∙ no_more_counts (counts_in_all (shapes did)),
        )

  -- all iterations, and the loop
  module _ (typed : CountersTyped p view.scope loops) where
    abbrev Between : Bool → ℕ → program_store.Store → store.Store → Type 0
    Between b left s t = (left ≤ most) × Agree p core view [] s t × HoldRightly p view.scope.mems s × Begun_now b t

    abbrev owned_all : List ℕ
    owned_all = map (mem_number p.mems) (own_mems body) ++ owned_registers n body no_more

    abbrev iteration : Bool × List ℕ → step.Step program_shape.Shape
    iteration it = step.◌>>◌ step.turn (step.◌>>◌ (count_now loops it.1) (step.◌>>=◌ (run_all p.mems roomy body) (λ did. step.◌>>◌ (assign_all p.mems comb acc part it.0 place) (step.pure (ran_shape (shapes did))))))

    iteration_follows : Followed p core h most view 0 loops typed style owned_all whole iteration Between
    unfolding step.pure counts_in
    iteration_follows ls numbers combines ws vs left rest s after t a same g goes =
        let last : List program_shape.Shape → step.Step program_shape.Shape = λ did. step.◌>>◌ (assign_all p.mems comb acc part combines place) (step.pure (ran_shape (shapes did))) in
        let e = taken_apart step.turn (λ _. step.◌>>◌ (count_now loops ws) (step.◌>>=◌ (run_all p.mems roomy body) last)) left s a rest after goes in
        let fell = turn_falls e.answer left e.between s e.store e.first in
        let d = taken_apart (count_now loops ws) (λ _. step.◌>>=◌ (run_all p.mems roomy body) last) e.between e.store a rest after e.second in
        let f = taken_apart (run_all p.mems roomy body) last d.between d.store a rest after d.second in
        let y = taken_apart (assign_all p.mems comb acc part combines place) (λ _. step.pure (ran_shape (shapes f.answer))) f.between f.store a rest after f.second in
        let around : counters.Scope = in_group view.around ls vs in
        let entered = enter p core view loops ls ws vs (is_live ls vs) e.store d.store t d.answer e.between d.between numbers same.0 same.1 typed.binders seen (subst (λ v. Agree p core view [] v t) (sym fell.1) g.1) d.first in
        let enough : d.between ≤ most = omega (arith, fell.0, entered.0, g.0) in
        let right : HoldRightly p view.scope.mems d.store = keep_counts p view.scope.mems loops ws e.between d.between e.store d.store d.answer (keep_turn p view.scope.mems left e.between s e.store e.answer g.2 e.first) d.first in
        let right_in : HoldRightly p (with_counters view.scope loops).mems d.store = subst (λ l. HoldRightly p l d.store) (sym (same_mems view.scope loops)) right in
        let a1 = agree_kept p core h (inside around view.registers) d.store t (begun, Some (bit combines)) (added, g.3) entered.1 in
        let x = group_goes combines around d.store f.store y.store t d.between f.between y.between y.answer f.answer enough right_in a1 f.first y.first (is_live ls vs) (first_is_live ls vs same.1) in
        let turns = fewer combines around d.store f.store y.store t d.between f.between y.between y.answer f.answer enough right_in a1 f.first y.first in
        let falls : f.between ≤ d.between = body_falls p.mems roomy body d.between f.between d.store f.store f.answer f.first in
        let ends : y.store ≡ after = same_store (ran_shape (shapes f.answer)) a y.between rest y.store after y.second in
        let left_again = leave p core view loops around y.store x.1 (λ j i. outside p core view.scope view.around loops ls vs (is_live ls vs) j numbers typed.binders i) seen x.3 in
        let right_out = keep_elements_after p h.declared roomy view.scope body loops acc part place comb (body_rightly p h.declared roomy body (with_counters view.scope loops) body_typed) is_acc.is_kind (combines, ws) left rest s after a g.2 goes in (
          x.0,
          x.1,
          x.2,
          (
            omega (arith, falls, enough, turns, same_left (ran_shape (shapes f.answer)) a y.between rest y.store after y.second),
            subst (λ v. Agree p core view [] v x.1) ends left_again,
            right_out,
            x.4,
          ),
          x.5 ∙ ap counts_in (same_answer (ran_shape (shapes f.answer)) a y.between rest y.store after y.second),
        )

    pub mem_reduction_goes : (b : ℕ) (s after : program_store.Store) (t : store.Store) (left rest : ℕ) (did : List program_shape.Shape) → left ≤ most → HoldRightly p view.scope.mems s → Agree p core view [] s t → AreReady p core is_early left s t b (bounds_of loops) → Begun_now false t
        → run_kind p.mems roomy (mem_reduce style acc loops body part comb) place left s ≡ step.went did rest after
        → NodeGoes p core most view (outer_node p.mems (length p.counters) n (counters_of p.mems view.sources b loops) style body no_more whole) t after did
    unfolding run_kind
    mem_reduction_goes b s after t left rest did enough right a ready now goes =
        let first = first_counter p view.sources b loops typed.one_to_four.0 in
        loop_goes p core h most view b loops typed style owned_all whole iteration Between iteration_follows (λ some left s t g. g.1) false s after t left rest did a ready (enough, a, right, now) first.0 first.1 first.2 goes
