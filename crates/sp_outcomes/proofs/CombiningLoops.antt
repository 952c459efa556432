-- A loop over stages that combines: where each iteration is followed, so is the loop.
use Rattle.std.proofs.Common.{◌≡◌, ℕ, Bool, true, List, [], ◌∷◌, ◌++◌, refl, sym, ◌∙◌, ap, subst}
use Rattle.std.specs.Prelude.{ℤ, map, length}
use Rattle.sp_words.specs.declared.kind.Style.{Style}
use Rattle.sp_tree.specs.Elements.{tuples}
use Rattle.sp_tree.specs.PlainProgram.{PlainProgram}
use Rattle.sp_tree.specs.PlainStatement.{PlainCounter}
use Rattle.sp_tree.specs.Sequential.{combining, counter_range}
use Rattle.sp_tree.specs.Shape as program_shape
use Rattle.sp_tree.specs.Shape.{shapes, looped}
use Rattle.sp_tree.specs.Step as step
use Rattle.sp_tree.specs.Store as program_store
use Rattle.sp_tree.specs.Typing.{CountersTyped}
use Rattle.sp_core.specs.History.{Bounds, Runs, outer_ran, groups_of}
use Rattle.sp_core.specs.PlainCore as plain
use Rattle.sp_core.specs.PlainCore.{PlainStages, PlainCore, outer}
use Rattle.sp_core.specs.Scope.{Loop, plainly, counts_of, group_values, is_live, in_group}
use Rattle.sp_core.specs.Sequential.{bounds, run}
use Rattle.sp_core.specs.Shape.{shape_of, group_shapes, stage_shapes}
use Rattle.sp_core.specs.Step as core_step
use Rattle.sp_core.specs.Store as store
use Rattle.sp_sugar.specs.Agreement.{HasMemories, View, Agree}
use Rattle.sp_sugar.specs.Early.{is_early, counters_of, bounds_of}
use Rattle.sp_sugar.proofs.StepLemmas.{same_answer, same_left, same_store, taken_apart, then_on}
use Rattle.sp_same.specs.Counts.{loop, counts_in, counts_in_all, counts_of as node_counts, group_counts, stage_counts}
use Rattle.sp_same.specs.Following.{AreReady, NodeGoes}
use Rattle.sp_same.proofs.BoundsTaken.{IsLoop, core_loops, AreLoops, are_loops, SameValues, iterations, bounds_taken}
use Rattle.sp_same.proofs.Groups.{outer_group}
use Rattle.sp_same.proofs.LoopNodes.{no_more_counts}
use Rattle.sp_same.proofs.Quietly.{Pairs}
use Rattle.sp_same.proofs.Turns.{each_pair}

module _ (p : PlainProgram) (core : PlainCore) (h : HasMemories p core) (most : ℕ) (view : View) (b : ℕ) (loops : List PlainCounter) (typed : CountersTyped p view.scope loops) (style : Style) (owned : List ℕ) (stages : PlainStages)
    (iteration : Bool × List ℕ → step.Step program_shape.Shape) (Between : Bool → ℕ → program_store.Store → store.Store → Type 0) where
  abbrev pub group : List Loop → List ℤ → core_step.Step Runs
  group ls vs = outer_group core most style owned stages (is_live ls vs) (in_group view.around ls vs)

  -- an iteration of the program, with the group that does the same
  abbrev pub Followed : Type 0
  Followed =
      (ls : List Loop) (numbers : Pairs IsLoop loops ls) (combines : Bool) (ws : List ℕ) (vs : List ℤ) (left rest : ℕ) (s after : program_store.Store) (t : store.Store) (a : program_shape.Shape)
      → SameValues p view.sources ls ws vs → Between combines left s t → iteration (combines, ws) left s ≡ step.went a rest after
      → (x : Runs) × (u : store.Store) × (group ls vs t ≡ core_step.went x u) × Between true rest after u × (stage_counts stages (stage_shapes stages x) ≡ counts_in a)

  abbrev Counted : program_shape.Shape → Runs → Type 0
  Counted a x = stage_counts stages (stage_shapes stages x) ≡ counts_in a

  all_counted : (al : List program_shape.Shape) (xs : List Runs) → Pairs Counted al xs → group_counts stages (group_shapes stages (groups_of xs)) ≡ counts_in_all (shapes al)
  unfolding group_counts group_shapes counts_in_all
  all_counted [] [] q = refl
  all_counted [] (x ∷ xs) q = absurd q
  all_counted (a ∷ al) [] q = absurd q
  all_counted (a ∷ al) (x ∷ xs) q = ap (λ l. l ++ group_counts stages (group_shapes stages (groups_of xs))) q.0 ∙ ap (λ l. counts_in a ++ l) (all_counted al xs q.1)

  module _ (followed : Followed) (ls : List Loop) (numbers : Pairs IsLoop loops ls) where
    abbrev Belongs : Bool × List ℕ → List ℤ → Type 0
    Belongs it vs = (it.0 ≡ true) × SameValues p view.sources ls it.1 vs

    all_combine : (xs : List (List ℕ)) (ys : List (List ℤ)) → Pairs (SameValues p view.sources ls) xs ys → Pairs Belongs (map (λ others. (true, others)) xs) ys
    all_combine [] [] q = tt
    all_combine [] (y ∷ ys) q = absurd q
    all_combine (x ∷ xs) [] q = absurd q
    all_combine (x ∷ xs) (y ∷ ys) q = ((refl, q.0), all_combine xs ys q.1)

    -- all iterations
    record All_ran (ys : List (List ℤ)) (t : store.Store) (al : List program_shape.Shape) (rest : ℕ) (after : program_store.Store) : Type 0 where
      groups : List Runs
      end : store.Store
      grouped : core_step.in_order (group ls) ys t ≡ core_step.went groups end
      some : Bool
      between : Between some rest after end
      counted : group_counts stages (group_shapes stages (groups_of groups)) ≡ counts_in_all (shapes al)

    all_ran : (first : Bool) (xs : List (List ℕ)) (ys : List (List ℤ)) (left rest : ℕ) (s after : program_store.Store) (t : store.Store) (al : List program_shape.Shape) → Pairs (SameValues p view.sources ls) xs ys → Between first left s t → step.in_order iteration (combining first xs) left s ≡ step.went al rest after → All_ran ys t al rest after
    unfolding step.in_order step.pure core_step.in_order core_step.pure counts_in_all group_counts group_shapes
    all_ran first [] [] left rest s after t al q g goes = record {
      groups = [];
      end = t;
      grouped = refl;
      some = first;
      between = subst (λ n. Between first n after t) (same_left [] al left rest s after goes) (subst (λ v. Between first left v t) (same_store [] al left rest s after goes) g);
      counted = ap (λ l. counts_in_all (shapes l)) (same_answer [] al left rest s after goes);
    }
    all_ran first [] (y ∷ ys) left rest s after t al q g goes = absurd q
    all_ran first (x ∷ xs) [] left rest s after t al q g goes = absurd q
    all_ran first (ws ∷ xs) (vs ∷ ys) left rest s after t al q g goes =
        let others : List (Bool × List ℕ) = map (λ others. (true, others)) xs in
        let c = taken_apart (iteration (first, ws)) (λ x. step.◌>>=◌ (step.in_order iteration others) (λ more. step.pure (x ∷ more))) left s al rest after goes in
        let d = taken_apart (step.in_order iteration others) (λ more. step.pure (c.answer ∷ more)) c.between c.store al rest after c.second in
        let one = followed ls numbers first ws vs left c.between s c.store t c.answer q.0 g c.first in
        let r = each_pair iteration (group ls) Belongs Counted (Between true)
        (λ it vs left rest s after t a same g goes. followed ls numbers it.0 it.1 vs left rest s after t a same.1 (subst (λ z. Between z left s t) (sym same.0) g) goes)
        others ys c.between d.between c.store d.store one.1 d.answer (all_combine xs ys q.1) one.3 d.first in
        record {
          groups = one.0 ∷ r.0;
          end = r.1;
          grouped = then_on (group ls vs) (λ x. core_step.◌>>=◌ (core_step.in_order (group ls) ys) (λ more. core_step.pure (x ∷ more))) t one.0 one.1 one.2
              ∙ then_on (core_step.in_order (group ls) ys) (λ more. core_step.pure (one.0 ∷ more)) one.1 r.0 r.1 r.2;
          some = true;
          between = subst (λ n. Between true n after r.1) (same_left (c.answer ∷ d.answer) al d.between rest d.store after d.second) (subst (λ v. Between true d.between v r.1) (same_store (c.answer ∷ d.answer) al d.between rest d.store after d.second) r.3);
          counted = all_counted (c.answer ∷ d.answer) (one.0 ∷ r.0) (one.4, r.4) ∙ ap (λ l. counts_in_all (shapes l)) (same_answer (c.answer ∷ d.answer) al d.between rest d.store after d.second);
        }

  -- the loop
  pub loop_goes : (followed : Followed) (agrees : (some : Bool) (left : ℕ) (s : program_store.Store) (t : store.Store) → Between some left s t → Agree p core view [] s t) (first : Bool) (s after : program_store.Store) (t : store.Store) (left rest : ℕ) (did : List program_shape.Shape)
      → Agree p core view [] s t → AreReady p core is_early left s t b (bounds_of loops) → Between first left s t → (c : plain.PlainCounter) (more : List plain.PlainCounter) → c ∷ more ≡ counters_of p.mems view.sources b loops
      → (step.◌>>=◌ (step.in_order (counter_range p.mems) loops) (λ ranges. step.◌>>=◌ (step.in_order iteration (combining first (tuples ranges))) (λ bodies. step.pure (looped (map length ranges) (shapes bodies) ∷ [])))) left s ≡ step.went did rest after
      → NodeGoes p core most view (outer (counters_of p.mems view.sources b loops) style owned stages) t after did
  unfolding run step.pure core_step.pure shape_of node_counts counts_in counts_in_all
  loop_goes followed agrees first s after t left rest did a ready begins c more some goes =
      let cs : List plain.PlainCounter = counters_of p.mems view.sources b loops in
      let y = taken_apart (step.in_order (counter_range p.mems) loops) (λ ranges. step.◌>>=◌ (step.in_order iteration (combining first (tuples ranges))) (λ bodies. step.pure (looped (map length ranges) (shapes bodies) ∷ []))) left s did rest after goes in
      let z = taken_apart (step.in_order iteration (combining first (tuples y.answer))) (λ bodies. step.pure (looped (map length y.answer) (shapes bodies) ∷ [])) y.between y.store did rest after y.second in
      let bt = bounds_taken p core h most view s t left a b loops y.answer y.between y.store typed.bounds ready y.first in
      let bs : List Bounds = bt.2 in
      let are : AreLoops p view.sources b loops bs y.answer = are_loops p view.sources view.scope b loops bs y.answer typed.bounds bt.4 in
      let ls : List Loop = core_loops p view.sources b loops bs in
      let r = all_ran followed ls are.numbers first (tuples y.answer) (group_values ls) y.between z.between y.store z.store t z.answer (iterations p view.sources b loops bs y.answer are)
      (subst (λ n. Between first n y.store t) (sym bt.0) (subst (λ v. Between first left v t) (sym bt.1) begins)) z.first in
      let shaped : looped (map length y.answer) (shapes z.answer) ∷ [] ≡ did = same_answer (looped (map length y.answer) (shapes z.answer) ∷ []) did z.between rest z.store after z.second in
      record {
        history = outer_ran bs (counts_of ls) (groups_of r.groups);
        after = r.end;
        goes = then_on (core_step.in_order (bounds core plainly most view.around) cs) (λ bs. core_step.◌>>=◌ (core_step.in_order (group (core_loops p view.sources b loops bs)) (group_values (core_loops p view.sources b loops bs))) (λ groups. core_step.pure (outer_ran bs (counts_of (core_loops p view.sources b loops bs)) (groups_of groups)))) t bs t bt.3
            ∙ then_on (core_step.in_order (group ls) (group_values ls)) (λ groups. core_step.pure (outer_ran bs (counts_of ls) (groups_of groups))) t r.groups r.end r.grouped;
        agree = subst (λ v. Agree p core view [] v r.end) (same_store (looped (map length y.answer) (shapes z.answer) ∷ []) did z.between rest z.store after z.second) (agrees r.some z.between z.store r.end r.between);
        counts = ap (λ l. node_counts (outer l style owned stages) (shape_of (outer l style owned stages) (outer_ran bs (counts_of ls) (groups_of r.groups)))) (sym some)
            ∙ ap (λ l. loop l ∷ group_counts stages (group_shapes stages (groups_of r.groups))) are.counted ∙ ap (λ l. loop (map length y.answer) ∷ l) (r.counted ∙ sym (no_more_counts (counts_in_all (shapes z.answer)))) ∙ ap (λ l. counts_in_all (shapes l)) shaped;
      }
