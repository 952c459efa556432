-- A loop does what its statement does, where its body does.
use Rattle.std.proofs.Common.{◌≡◌, ℕ, ◌≤◌, Bool, true, List, [], ◌∷◌, ◌++◌, Option, refl, sym, ◌∙◌, ap, subst, arith}
use Rattle.std.specs.Prelude.{ℤ, map, length}
use Rattle.sp_words.specs.declared.kind.Style.{Style}
use Rattle.sp_tree.specs.Elements.{tuples}
use Rattle.sp_tree.specs.PlainProgram.{PlainProgram}
use Rattle.sp_tree.specs.PlainStatement.{PlainCounter, PlainStmts, foreach}
use Rattle.sp_tree.specs.Sequential.{counter_range, count_now, run_kind, run_all}
use Rattle.sp_tree.specs.Shape as program_shape
use Rattle.sp_tree.specs.Shape.{shapes, ran, looped}
use Rattle.sp_tree.specs.Step as step
use Rattle.sp_tree.specs.Store as program_store
use Rattle.sp_tree.specs.Typing.{CountersTyped, BodyTyped, with_counters}
use Rattle.sp_core.specs.History.{Entry, History, Bounds, Runs, inner_ran, outer_ran, groups_of}
use Rattle.sp_core.specs.PlainCore as plain
use Rattle.sp_core.specs.PlainCore.{PlainOp, PlainNode, PlainStages, PlainCore, inner, outer}
use Rattle.sp_core.specs.Scope as counters
use Rattle.sp_core.specs.Scope.{Loop, plainly, counts_of, group_values, is_live, in_group}
use Rattle.sp_core.specs.Sequential.{bounds, run}
use Rattle.sp_core.specs.Shape.{shape_of, group_shapes, stage_shapes}
use Rattle.sp_core.specs.Step as core_step
use Rattle.sp_core.specs.Store as store
use Rattle.sp_sugar.specs.Agreement.{HasMemories, View, Agree}
use Rattle.sp_sugar.specs.Early.{is_early, counters_of, bounds_of}
use Rattle.sp_sugar.proofs.Entering.{same_mems}
use Rattle.sp_sugar.proofs.NodeParts.{InLaneZero}
use Rattle.sp_sugar.proofs.StepLemmas.{same_answer, same_left, same_store, taken_apart, then_on}
use Rattle.sp_same.specs.Contents.{HoldRightly}
use Rattle.sp_same.specs.Counts.{Count, loop, counts_in, counts_in_all, counts_of as node_counts, group_counts, stage_counts}
use Rattle.sp_same.specs.Following.{SourcesSeen, AreReady, NodeGoes, BodyFollowedRightly}
use Rattle.sp_same.proofs.BoundsTaken.{IsLoop, core_loops, AreLoops, are_loops, SameValues, iterations, bounds_taken}
use Rattle.sp_same.proofs.Counting.{enter, outside, leave}
use Rattle.sp_same.proofs.Groups.{inner_group, one_inner, outer_group, one_outer, first_is_live}
use Rattle.sp_same.proofs.Quietly.{Pairs}
use Rattle.sp_same.proofs.Rightly.{keep_turn, keep_counts, keep_body, body_rightly}
use Rattle.sp_same.proofs.Turns.{turn_falls, body_falls, each_pair}

pub no_more_counts : (cs : List Count) → cs ++ [] ≡ cs
no_more_counts [] = refl
no_more_counts (c ∷ cs) = ap (λ l. c ∷ l) (no_more_counts cs)

module _ (p : PlainProgram) (core : PlainCore) (h : HasMemories p core) (roomy : List ℕ) (most : ℕ) (view : View) (seen : SourcesSeen view.scope view.sources) (b : ℕ) (loops : List PlainCounter) (typed : CountersTyped p view.scope loops) (body : PlainStmts) (typed_body : BodyTyped p (with_counters view.scope loops) body) where
  abbrev core_counters : List plain.PlainCounter
  core_counters = counters_of p.mems view.sources b loops

  abbrev inside : counters.Scope → View
  inside around = record view { scope = with_counters view.scope loops; around = around }

  -- an iteration of the program
  abbrev iteration : List ℕ → step.Step program_shape.Shape
  iteration ws = step.◌>>◌ step.turn (step.◌>>◌ (count_now loops ws) (step.◌>>=◌ (run_all p.mems roomy body) (λ did. step.pure (ran (shapes did)))))

  abbrev Going : ℕ → program_store.Store → store.Store → Type 0
  Going left s t = (left ≤ most) × Agree p core view [] s t × HoldRightly p view.scope.mems s

  -- some group, by a node without counters
  module _ {B : Type 0} (alone : PlainNode) (followed : (around : counters.Scope) → BodyFollowedRightly p core roomy most (inside around) alone body) (group : (around : counters.Scope) → (ℕ → Bool) → core_step.Step B) (counted : B → List Count)
      (one : (around : counters.Scope) (live : ℕ → Bool) (h : History) (t u : store.Store) → live 0 ≡ true → run core plainly most alone around t ≡ core_step.went h u → (x : B) × (group around live t ≡ core_step.went x u) × (node_counts alone (shape_of alone h) ≡ counted x))
      (ls : List Loop) (numbers : Pairs IsLoop loops ls) where
    abbrev core_iteration : List ℤ → core_step.Step B
    core_iteration vs = group (in_group view.around ls vs) (is_live ls vs)

    abbrev Counted : program_shape.Shape → B → Type 0
    Counted shape x = counted x ≡ counts_in shape

    group_follows : (ws : List ℕ) (vs : List ℤ) (left rest : ℕ) (s after : program_store.Store) (t : store.Store) (a : program_shape.Shape) → SameValues p view.sources ls ws vs → Going left s t → iteration ws left s ≡ step.went a rest after
        → (x : B) × (u : store.Store) × (core_iteration vs t ≡ core_step.went x u) × Going rest after u × Counted a x
    unfolding step.pure counts_in
    group_follows ws vs left rest s after t a equal g e =
        let c = taken_apart step.turn (λ _. step.◌>>◌ (count_now loops ws) (step.◌>>=◌ (run_all p.mems roomy body) (λ did. step.pure (ran (shapes did))))) left s a rest after e in
        let fell = turn_falls c.answer left c.between s c.store c.first in
        let d = taken_apart (count_now loops ws) (λ _. step.◌>>=◌ (run_all p.mems roomy body) (λ did. step.pure (ran (shapes did)))) c.between c.store a rest after c.second in
        let f = taken_apart (run_all p.mems roomy body) (λ did. step.pure (ran (shapes did))) d.between d.store a rest after d.second in
        let entered = enter p core view loops ls ws vs (is_live ls vs) c.store d.store t d.answer c.between d.between numbers equal.0 equal.1 typed.binders seen (subst (λ v. Agree p core view [] v t) (sym fell.1) g.1) d.first in
        let fewer : d.between ≤ most = omega (arith, fell.0, entered.0, g.0) in
        let here : HoldRightly p view.scope.mems d.store = keep_counts p view.scope.mems loops ws c.between d.between c.store d.store d.answer (keep_turn p view.scope.mems left c.between s c.store c.answer g.2 c.first) d.first in
        let same : (with_counters view.scope loops).mems ≡ view.scope.mems = same_mems view.scope loops in
        let goes = followed (in_group view.around ls vs) d.store f.store t d.between f.between f.answer fewer (subst (λ l. HoldRightly p l d.store) (sym same) here) entered.1 f.first in
        let right : HoldRightly p view.scope.mems f.store = keep_body p h.declared roomy view.scope body (with_counters view.scope loops) same (body_rightly p h.declared roomy body (with_counters view.scope loops) typed_body) d.between f.between d.store f.store f.answer here f.first in
        let x = one (in_group view.around ls vs) (is_live ls vs) goes.history t goes.after (first_is_live ls vs equal.1) goes.goes in
        let left_again = leave p core view loops (in_group view.around ls vs) f.store goes.after (λ k c. outside p core view.scope view.around loops ls vs (is_live ls vs) k numbers typed.binders c) seen goes.agree in
        let falls : f.between ≤ d.between = body_falls p.mems roomy body d.between f.between d.store f.store f.answer f.first in (
          x.0,
          goes.after,
          x.1,
          (subst (λ n. n ≤ most) (same_left (ran (shapes f.answer)) a f.between rest f.store after f.second) (omega (arith, falls, fewer)), subst (λ v. Agree p core view [] v goes.after) (same_store (ran (shapes f.answer)) a f.between rest f.store after f.second) left_again, subst (HoldRightly p view.scope.mems) (same_store (ran (shapes f.answer)) a f.between rest f.store after f.second) right),
          sym x.2 ∙ goes.counts ∙ ap counts_in (same_answer (ran (shapes f.answer)) a f.between rest f.store after f.second),
        )

  -- what is done before the iterations
  record Begun (ranges : List (List ℕ)) (s u : program_store.Store) (t : store.Store) (left rest : ℕ) : Type 0 where
    bs : List Bounds
    bounded : core_step.in_order (bounds core plainly most view.around) core_counters t ≡ core_step.went bs t
    are : AreLoops p view.sources b loops bs ranges
    same_turns : rest ≡ left
    same_store : u ≡ s

  begin : (ranges : List (List ℕ)) (s u : program_store.Store) (t : store.Store) (left rest : ℕ) → Agree p core view [] s t → AreReady p core is_early left s t b (bounds_of loops)
      → step.in_order (counter_range p.mems) loops left s ≡ step.went ranges rest u → Begun ranges s u t left rest
  begin ranges s u t left rest a ready e =
      let x = bounds_taken p core h most view s t left a b loops ranges rest u typed.bounds ready e in
      record { bs = x.2; bounded = x.3; are = are_loops p view.sources view.scope b loops x.2 ranges typed.bounds x.4; same_turns = x.0; same_store = x.1 }

  all_counted : {B : Type 0} (counted : B → List Count) → List B → List Count
  all_counted counted [] = []
  all_counted counted (x ∷ xs) = counted x ++ all_counted counted xs

  same_counts : {B : Type 0} (counted : B → List Count) (al : List program_shape.Shape) (xs : List B) → Pairs (λ shape x. counted x ≡ counts_in shape) al xs → all_counted counted xs ≡ counts_in_all (shapes al)
  unfolding counts_in_all all_counted
  same_counts counted [] [] q = refl
  same_counts counted [] (x ∷ xs) q = absurd q
  same_counts counted (a ∷ al) [] q = absurd q
  same_counts counted (a ∷ al) (x ∷ xs) q = ap (λ l. l ++ all_counted counted xs) q.0 ∙ ap (λ l. counts_in a ++ l) (same_counts counted al xs q.1)

  -- without its counters a node has no loop
  module _ (style : Style) (place rest left : ℕ) (s after : program_store.Store) (t : store.Store) (did : List program_shape.Shape) (a : Agree p core view [] s t) (right : HoldRightly p view.scope.mems s) (ready : AreReady p core is_early left s t b (bounds_of loops)) (enough : left ≤ most)
      (e : run_kind p.mems roomy (foreach style loops body) place left s ≡ step.went did rest after) where
    record Ran {B : Type 0} (group : (around : counters.Scope) → (ℕ → Bool) → core_step.Step B) (counted : B → List Count) : Type 0 where
      bs : List Bounds
      xs : List B
      end : store.Store
      bounded : core_step.in_order (bounds core plainly most view.around) core_counters t ≡ core_step.went bs t
      grouped : core_step.in_order (λ vs. group (in_group view.around (core_loops p view.sources b loops bs) vs) (is_live (core_loops p view.sources b loops bs) vs)) (group_values (core_loops p view.sources b loops bs)) t ≡ core_step.went xs end
      agree : Agree p core view [] after end
      counts : loop (counts_of (core_loops p view.sources b loops bs)) ∷ all_counted counted xs ≡ counts_in_all (shapes did)

    ran_groups : {B : Type 0} (alone : PlainNode) (followed : (around : counters.Scope) → BodyFollowedRightly p core roomy most (inside around) alone body) (group : (around : counters.Scope) → (ℕ → Bool) → core_step.Step B) (counted : B → List Count)
        (one : (around : counters.Scope) (live : ℕ → Bool) (h : History) (t u : store.Store) → live 0 ≡ true → run core plainly most alone around t ≡ core_step.went h u → (x : B) × (group around live t ≡ core_step.went x u) × (node_counts alone (shape_of alone h) ≡ counted x))
        → Ran group counted
    unfolding run_kind step.pure counts_in counts_in_all
    ran_groups alone followed group counted one =
        let x = taken_apart (step.in_order (counter_range p.mems) loops) (λ ranges. step.◌>>=◌ (step.in_order iteration (tuples ranges)) (λ bodies. step.pure (looped (map length ranges) (shapes bodies) ∷ []))) left s did rest after e in
        let y = taken_apart (step.in_order iteration (tuples x.answer)) (λ bodies. step.pure (looped (map length x.answer) (shapes bodies) ∷ [])) x.between x.store did rest after x.second in
        let first = begin x.answer s x.store t left x.between a ready x.first in
        let ls : List Loop = core_loops p view.sources b loops first.bs in
        let all = each_pair iteration (λ vs. group (in_group view.around ls vs) (is_live ls vs)) (SameValues p view.sources ls) (λ shape x. counted x ≡ counts_in shape) Going
        (λ ws vs left rest s after t a. group_follows alone followed group counted one ls first.are.numbers ws vs left rest s after t a)
        (tuples x.answer) (group_values ls) x.between y.between x.store y.store t y.answer (iterations p view.sources b loops first.bs x.answer first.are)
        (subst (λ n. n ≤ most) (sym first.same_turns) enough, subst (λ v. Agree p core view [] v t) (sym first.same_store) a, subst (HoldRightly p view.scope.mems) (sym first.same_store) right) y.first in
        record {
          bs = first.bs;
          xs = all.0;
          end = all.1;
          bounded = first.bounded;
          grouped = all.2;
          agree = subst (λ v. Agree p core view [] v all.1) (same_store (looped (map length x.answer) (shapes y.answer) ∷ []) did y.between rest y.store after y.second) all.3.1;
          counts = ap (λ l. loop l ∷ all_counted counted all.0) first.are.counted ∙ ap (λ l. loop (map length x.answer) ∷ l) (same_counts counted y.answer all.0 all.4 ∙ sym (no_more_counts (counts_in_all (shapes y.answer))))
              ∙ ap (λ l. counts_in_all (shapes l)) (same_answer (looped (map length x.answer) (shapes y.answer) ∷ []) did y.between rest y.store after y.second);
        }

    -- an inner body
    none : List Entry → List Count
    none es = []

    all_none : (xs : List (List Entry)) → all_counted none xs ≡ []
    unfolding all_counted none
    all_none [] = refl
    all_none (x ∷ xs) = all_none xs

    pub inner_goes : (owned : List ℕ) (ops : List PlainOp) (comb : Option ℕ) (c : plain.PlainCounter) (cs : List plain.PlainCounter) → c ∷ cs ≡ core_counters → ((around : counters.Scope) → BodyFollowedRightly p core roomy most (inside around) (inner [] owned ops comb) body)
        → NodeGoes p core most view (inner core_counters owned ops comb) t after did
    unfolding run core_step.pure shape_of node_counts none
    inner_goes owned ops comb c cs some followed =
        let x = ran_groups (inner [] owned ops comb) followed (λ around live. inner_group core most owned ops around) none
        (λ around live h t u l e. let f = one_inner core most owned ops comb around h t u e in (f.0, f.1, ap (λ h. node_counts (inner [] owned ops comb) (shape_of (inner [] owned ops comb) h)) (sym f.2))) in
        let ls : List Loop = core_loops p view.sources b loops x.bs in
        record {
          history = inner_ran x.bs (counts_of ls) x.xs;
          after = x.end;
          goes = then_on (core_step.in_order (bounds core plainly most view.around) core_counters) (λ bs. core_step.◌>>=◌ (core_step.in_order (λ vs. inner_group core most owned ops (in_group view.around (core_loops p view.sources b loops bs) vs)) (group_values (core_loops p view.sources b loops bs))) (λ groups. core_step.pure (inner_ran bs (counts_of (core_loops p view.sources b loops bs)) groups))) t x.bs t x.bounded
              ∙ then_on (core_step.in_order (λ vs. inner_group core most owned ops (in_group view.around ls vs)) (group_values ls)) (λ groups. core_step.pure (inner_ran x.bs (counts_of ls) groups)) t x.xs x.end x.grouped;
          agree = x.agree;
          counts = ap (λ l. node_counts (inner l owned ops comb) (shape_of (inner l owned ops comb) (inner_ran x.bs (counts_of ls) x.xs))) (sym some) ∙ ap (λ l. loop (counts_of ls) ∷ l) (sym (all_none x.xs)) ∙ x.counts;
        }

    -- a body with stages
    of_stages : PlainStages → Runs → List Count
    of_stages stages runs = stage_counts stages (stage_shapes stages runs)

    all_stages : (stages : PlainStages) (xs : List Runs) → group_counts stages (group_shapes stages (groups_of xs)) ≡ all_counted (of_stages stages) xs
    unfolding all_counted of_stages group_counts group_shapes
    all_stages stages [] = refl
    all_stages stages (x ∷ xs) = ap (λ l. stage_counts stages (stage_shapes stages x) ++ l) (all_stages stages xs)

    pub outer_goes : (kind : Style) (owned : List ℕ) (stages : PlainStages) (c : plain.PlainCounter) (cs : List plain.PlainCounter) → InLaneZero stages → c ∷ cs ≡ core_counters → ((around : counters.Scope) → BodyFollowedRightly p core roomy most (inside around) (outer [] kind owned stages) body)
        → NodeGoes p core most view (outer core_counters kind owned stages) t after did
    unfolding run core_step.pure shape_of group_shapes node_counts group_counts of_stages
    outer_goes kind owned stages c cs zero some followed =
        let x = ran_groups (outer [] kind owned stages) followed (λ around live. outer_group core most kind owned stages live around) (of_stages stages)
        (λ around live h t u l e. let f = one_outer core most kind owned stages around live h t u zero l e in (f.0, f.1, ap (λ h. node_counts (outer [] kind owned stages) (shape_of (outer [] kind owned stages) h)) (sym f.2) ∙ no_more_counts (of_stages stages f.0))) in
        let ls : List Loop = core_loops p view.sources b loops x.bs in
        record {
          history = outer_ran x.bs (counts_of ls) (groups_of x.xs);
          after = x.end;
          goes = then_on (core_step.in_order (bounds core plainly most view.around) core_counters) (λ bs. core_step.◌>>=◌ (core_step.in_order (λ vs. outer_group core most kind owned stages (is_live (core_loops p view.sources b loops bs) vs) (in_group view.around (core_loops p view.sources b loops bs) vs)) (group_values (core_loops p view.sources b loops bs))) (λ groups. core_step.pure (outer_ran bs (counts_of (core_loops p view.sources b loops bs)) (groups_of groups)))) t x.bs t x.bounded
              ∙ then_on (core_step.in_order (λ vs. outer_group core most kind owned stages (is_live ls vs) (in_group view.around ls vs)) (group_values ls)) (λ groups. core_step.pure (outer_ran x.bs (counts_of ls) (groups_of groups))) t x.xs x.end x.grouped;
          agree = x.agree;
          counts = ap (λ l. node_counts (outer l kind owned stages) (shape_of (outer l kind owned stages) (outer_ran x.bs (counts_of ls) (groups_of x.xs)))) (sym some) ∙ ap (λ l. loop (counts_of ls) ∷ l) (all_stages stages x.xs) ∙ x.counts;
        }
