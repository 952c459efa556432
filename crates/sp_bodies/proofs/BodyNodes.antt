-- The node of a body with stages does what its statements do.
use Rattle.std.proofs.Common.{◌≡◌, ℕ, ◌+◌, ◌<◌, ◌≤◌, false, List, [], ◌∷◌, ◌++◌, Option, Some, ◌&&◌, refl, sym, ◌∙◌, ap, subst, if◌then◌else◌}
use Rattle.std.proofs.lemmas.Bool.{true≢false}
use Rattle.std.specs.Prelude.{length, Contains}
use Rattle.sp_words.specs.declared.kind.Style.{Style}
use Rattle.sp_words.specs.declared.kind.Style.TheVariants.{Pipe, Sequential, Parallel, Stream}
use Rattle.sp_words.specs.Memory.{cells}
use Rattle.sp_words.specs.declared.types.Ty.{Ty}
use Rattle.sp_tree.specs.Expressions as expressions
use Rattle.sp_tree.specs.PlainProgram.{PlainProgram}
use Rattle.sp_tree.specs.PlainStatement.{PlainStmts}
use Rattle.sp_tree.specs.Sequential.{run_all}
use Rattle.sp_tree.specs.Shape as program_shape
use Rattle.sp_tree.specs.Shape.{shapes}
use Rattle.sp_tree.specs.Step as step
use Rattle.sp_tree.specs.Store as program_store
use Rattle.sp_tree.specs.Structure.{mems_declared, is_inner}
use Rattle.sp_tree.specs.Typing.{Scope, BodyTyped, after_all}
use Rattle.sp_core.specs.Declarations.{is_stream}
use Rattle.sp_core.specs.History.{Entry, Runs, no_run as none_ran, outer_ran, groups_of}
use Rattle.sp_core.specs.PlainCore.{PlainStages, PlainCore, outer, no_stage}
use Rattle.sp_core.specs.Scope as counters
use Rattle.sp_core.specs.Scope.{plainly, is_live}
use Rattle.sp_core.specs.Sequential.{has_reset, renew, end_of_group, run_stages}
use Rattle.sp_core.specs.Shape.{shape_of, group_shapes, stage_shapes}
use Rattle.sp_core.specs.Step.{went, pure, in_order, ◌>>=◌, ◌>>◌}
use Rattle.sp_core.specs.Store as store
use Rattle.sp_sugar.specs.Agreement.{HasMemories, View, IsAdded, place_of, Finds, Apart, Agree}
use Rattle.sp_sugar.specs.Registers.{registers}
use Rattle.sp_sugar.specs.Runs.{no_run}
use Rattle.sp_sugar.specs.Stages.{Combines, nothing, inner_node, outer_node, stages}
use Rattle.sp_sugar.specs.Uses.{Ending, no_more}
use Rattle.sp_sugar.proofs.RunKeeps.{in_back}
use Rattle.sp_sugar.proofs.StepLemmas.{then_on}
use Rattle.sp_same.specs.Contents.{HoldRightly}
use Rattle.sp_same.specs.Counts.{counts_in_all, counts_of, group_counts, stage_counts}
use Rattle.sp_same.specs.Following.{SourcesSeen, AreSpare, IsOwn, NodeGoes, BodyFollowedRightly, alone}
use Rattle.sp_same.proofs.InnerBodies.{after_mems, after_vals, after_counters}
use Rattle.sp_same.proofs.LoopNodes.{no_more_counts}
use Rattle.sp_bodies.specs.Bodies.{HaveRoomsAlike, AreDeclared, AreStagesFollowed}
use Rattle.sp_bodies.proofs.BodyStarts.{outer_alone, its_owned, kept, start, renewed, standing_start, placed_start}
use Rattle.sp_bodies.proofs.Known.{Known, known_found}
use Rattle.sp_bodies.proofs.StageSteps.{run_onward}
use Rattle.sp_bodies.proofs.StagesGo.{Ended, stages_go}

pub quiet_end : (core : PlainCore) (most : ℕ) (style : Style) (owned : List ℕ) (u : store.Store) → is_stream style ≡ false → end_of_group core plainly most style owned u ≡ went [] u
unfolding pure
quiet_end core most Pipe owned u e = refl
quiet_end core most Sequential owned u e = refl
quiet_end core most Parallel owned u e = refl
quiet_end core most Stream owned u e = absurd (true≢false e)

module _ (p : PlainProgram) (core : PlainCore) (h : HasMemories p core) (roomy : List ℕ) (rooms : HaveRoomsAlike p roomy core) (most : ℕ) (view : View) (body : PlainStmts) (ending : Ending) (n : ℕ)
    (typed : BodyTyped p view.scope body) (seen : SourcesSeen view.scope view.sources) (spare : AreSpare n (n + length (registers body ending)) view) (declared : AreDeclared p core n (registers body ending))
    (own : (m : ℕ) → Contains (mems_declared body) m → IsOwn p view.scope m) (apart : Apart (mems_declared body ++ view.waiting)) (resets : (m : ℕ) → view.resets m ≡ false) (followed : AreStagesFollowed p roomy core body) where
  -- all stages of a body have run
  pub record Ran (c : Combines) (s : program_store.Store) (start : store.Store) (after : program_store.Store) (did : List program_shape.Shape) : Type 0 where
    pub runs : Runs
    pub end : store.Store
    pub goes : run_stages core plainly most (stages p.mems (length p.counters) (no_run view.sources) n body ending c) (is_live [] []) view.around start ≡ went runs end
    pub agree : Agree p core view [] after end
    pub inner : (m : ℕ) → Contains (after_all view.scope body).mems m → (m < length p.mems) × (end (place_of p core m) ≡ after.held m)
    pub counts : stage_counts (stages p.mems (length p.counters) (no_run view.sources) n body ending c) (stage_shapes (stages p.mems (length p.counters) (no_run view.sources) n body ending c) runs) ≡ counts_in_all (shapes did)

  -- at the end of a body what was visible before it agrees
  pub agree_out : (c : Combines) (kept0 : List (ℕ × Option ℕ)) (whole : PlainStages) (t : store.Store) (after : program_store.Store) (did : List program_shape.Shape) (z : Ended p core h roomy rooms view resets most view.waiting view.scope.vals view.sources (after_all view.scope body) ending c whole kept0 t after did) → ((x : ℕ × Option ℕ) → Contains view.registers x → Contains kept0 x)
      → (other : View) (all : List Entry) (u : store.Store) → other.scope ≡ after_all view.scope body → other.around ≡ view.around → other.resets ≡ view.resets → other.waiting ≡ view.waiting → ((x : ℕ × Option ℕ) → Contains z.kept_end x → Contains other.registers x) → (s2 : program_store.Store) → ((v : ℕ × Ty) → Contains view.scope.vals v → Finds p core view.around [] u (view.sources v.0) (s2.values v.0)) → Agree p core other all s2 u → Agree p core view [] s2 u
  agree_out c kept0 whole t after did z keeps other all u scope around resets2 waiting registers s2 vals a =
      record {
        mems = λ m d. a.mems m (subst (λ (S : Scope). Contains S.mems m) (sym scope) (after_mems view.scope body m d));
        vals = vals;
        counts = λ k d. subst (λ (f : counters.Scope). counters.count_word (f k) 0 ≡ s2.counts k) around (a.counts k (subst (λ (S : Scope). Contains S.counters k) (sym scope) (subst (λ l. Contains l k) (sym (after_counters view.scope body)) d)));
        waiting = λ m d. let x = a.waiting m (subst (λ l. Contains l m) (sym waiting) d) in record {
          exists = x.exists;
          on_chip = x.on_chip;
          unseen = λ y. x.unseen (subst (λ (S : Scope). Contains S.mems m) (sym scope) (after_mems view.scope body m y));
          holds = λ f. x.holds (subst (λ r. (r m && has_reset (expressions.mem p.mems m).kind (expressions.mem p.mems m).start) ≡ false) (sym resets2) f);
        };
        registers = λ x d. a.registers x (registers x (z.more x (keeps x d)));
      }

  -- values of before are found where they were
  pub vals_out : (c : Combines) (kept0 : List (ℕ × Option ℕ)) (whole : PlainStages) (t : store.Store) (after : program_store.Store) (did : List program_shape.Shape) (z : Ended p core h roomy rooms view resets most view.waiting view.scope.vals view.sources (after_all view.scope body) ending c whole kept0 t after did)
      → (u : store.Store) → ((x : ℕ × Option ℕ) → Contains z.kept_end x → IsAdded p core x.0 × (u x.0 ≡ Some (cells (x.1 ∷ [])))) → (v : ℕ × Ty) → Contains view.scope.vals v → Finds p core view.around [] u (view.sources v.0) (after.values v.0)
  vals_out c kept0 whole t after did z u held v d =
      known_found p core (record view { registers = z.kept_end }) [] u (view.sources v.0) (after.values v.0) held (subst (λ x. Known view.around z.kept_end x (after.values v.0)) (z.old v d) (z.standing.later v (after_vals view.scope body v d)))

  module _ (s : program_store.Store) (t : store.Store) (right : HoldRightly p view.scope.mems s) (a : Agree p core view [] s t) (after : program_store.Store) (left rest : ℕ) (did : List program_shape.Shape) (enough : left ≤ most) (went_all : run_all p.mems roomy body left s ≡ step.went did rest after) where
    abbrev pub begun : store.Store
    begun = start p core h roomy rooms most view body ending n typed seen spare declared own apart resets s t right a

    abbrev pub kept_here : List (ℕ × Option ℕ)
    kept_here = kept p core h roomy rooms most view body ending n typed seen spare declared own apart resets s t right a

    pub all_stages : (c : Combines) → Ended p core h roomy rooms view resets most view.waiting view.scope.vals view.sources (after_all view.scope body) ending c (stages p.mems (length p.counters) (no_run view.sources) n body ending c) kept_here begun after did
    all_stages c = stages_go p core h roomy rooms view resets most view.waiting body ending c view.scope (no_run view.sources) n kept_here begun s after left rest did
        (placed_start p core h roomy rooms most view body ending n typed seen spare declared own apart resets s t right a) (standing_start p core h roomy rooms most view body ending n typed seen spare declared own apart resets s t right a) followed enough went_all

    pub kept_registers : (x : ℕ × Option ℕ) → Contains view.registers x → Contains kept_here x
    kept_registers x d = in_back _ view.registers x d

    abbrev pub owned : List ℕ
    owned = its_owned p core h roomy rooms most view body ending n typed seen spare declared own apart resets s t right a

    -- the node
    pub node_goes : (c : Combines) (style : Style) (after2 : program_store.Store) (ran : Ran c s begun after2 did) (al : List (Unit {0})) → end_of_group core plainly most style owned ran.end ≡ went al ran.end
        → NodeGoes p core most view (outer [] style owned (stages p.mems (length p.counters) (no_run view.sources) n body ending c)) t after2 did
    unfolding shape_of group_shapes counts_of group_counts pure
    node_goes c style after2 ran al ends =
        let all : PlainStages = stages p.mems (length p.counters) (no_run view.sources) n body ending c in
        record {
          history = outer_ran [] [] (groups_of (ran.runs ∷ []));
          after = ran.end;
          goes = outer_alone core most style owned all view.around ran.runs t ran.end
              (then_on (in_order (renew core plainly most) owned) (λ _. run_stages core plainly most all (is_live [] []) view.around >>= (λ runs. end_of_group core plainly most style owned >> pure runs)) t _ begun (renewed p core h roomy rooms most view body ending n typed seen spare declared own apart resets s t right a)
              ∙ then_on (run_stages core plainly most all (is_live [] []) view.around) (λ runs. end_of_group core plainly most style owned >> pure runs) begun ran.runs ran.end ran.goes
              ∙ then_on (end_of_group core plainly most style owned) (λ _. pure ran.runs) ran.end al ran.end ends);
          agree = ran.agree;
          counts = no_more_counts (stage_counts all (stage_shapes all ran.runs)) ∙ ran.counts;
        }

module _ (p : PlainProgram) (core : PlainCore) (h : HasMemories p core) (roomy : List ℕ) (rooms : HaveRoomsAlike p roomy core) (most : ℕ) (view : View) (body : PlainStmts) (n : ℕ)
    (typed : BodyTyped p view.scope body) (seen : SourcesSeen view.scope view.sources) (spare : AreSpare n (n + length (registers body no_more)) view) (declared : AreDeclared p core n (registers body no_more))
    (own : (m : ℕ) → Contains (mems_declared body) m → IsOwn p view.scope m) (apart : Apart (mems_declared body ++ view.waiting)) (resets : (m : ℕ) → view.resets m ≡ false) (followed : AreStagesFollowed p roomy core body) where
  -- a body that ends with nothing more
  pub ran_plainly : (s : program_store.Store) (t : store.Store) (right : HoldRightly p view.scope.mems s) (a : Agree p core view [] s t) (after : program_store.Store) (left rest : ℕ) (did : List program_shape.Shape) (enough : left ≤ most) (went_all : run_all p.mems roomy body left s ≡ step.went did rest after)
      → Ran p core h roomy rooms most view body no_more n typed seen spare declared own apart resets followed nothing s (begun p core h roomy rooms most view body no_more n typed seen spare declared own apart resets followed s t right a after left rest did enough went_all) after did
  unfolding run_stages stage_shapes stage_counts pure
  ran_plainly s t right a after left rest did enough went_all =
      let z = all_stages p core h roomy rooms most view body no_more n typed seen spare declared own apart resets followed s t right a after left rest did enough went_all nothing in
      let g = z.standing.goes in
      let whole : PlainStages = stages p.mems (length p.counters) (no_run view.sources) n body no_more nothing in
      let kept_too = kept_registers p core h roomy rooms most view body no_more n typed seen spare declared own apart resets followed s t right a after left rest did enough went_all in
      let final = record view { scope = after_all view.scope body; sources = z.run.values.here; registers = z.kept_end } in
      let last = run_onward p core most view.around h view s refl z.run.ops no_stage z.end g.after g.all g.goes (is_live [] []) none_ran g.after refl refl in
      let on = z.onward (is_live [] []) last.0 g.after refl last.1 in
      record {
        runs = on.0;
        end = g.after;
        goes = on.1;
        agree = agree_out p core h roomy rooms most view body no_more n typed seen spare declared own apart resets followed nothing _ whole _ after did z kept_too final g.all g.after refl refl refl refl (λ x d. d) after (vals_out p core h roomy rooms most view body no_more n typed seen spare declared own apart resets followed nothing _ whole _ after did z g.after g.agree.registers) g.agree;
        inner = g.agree.mems;
        counts = on.2 ∙ ap (λ l. counts_in_all (shapes did) ++ l) last.2 ∙ no_more_counts (counts_in_all (shapes did));
      }

  pub body_goes : (style : Style) → is_stream style ≡ false → is_inner body ≡ false → BodyFollowedRightly p core roomy most view (alone p view.sources n style body) body
  body_goes style quiet outer_body s after t left rest did enough right a went_all =
      let ran = ran_plainly s t right a after left rest did enough went_all in
      let whole : PlainStages = stages p.mems (length p.counters) (no_run view.sources) n body no_more nothing in
      subst (λ b. NodeGoes p core most view (if b then inner_node p.mems (length p.counters) view.sources [] body nothing else outer_node p.mems (length p.counters) n [] style body no_more whole) t after did) (sym outer_body)
      (node_goes p core h roomy rooms most view body no_more n typed seen spare declared own apart resets followed s t right a after left rest did enough went_all nothing style after ran []
      (quiet_end core most style _ ran.end quiet))
