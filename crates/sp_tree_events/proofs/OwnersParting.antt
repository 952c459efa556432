-- What owners do in runs of a node is what they do in the runs of the part that owns the memory.
use Rattle.std.proofs.Common.{◌≡◌, ℕ, zero, suc, ◌+◌, ◌<◌, ◌⊎◌, inl, inr, true, false, List, [], ◌∷◌, length, flat_map, sum_by, refl, sym, ap, subst, arith}
use Rattle.std.proofs.lemmas.Bool.{cases_lt}
use Rattle.sp_words.specs.declared.kind.Style.{Style}
use Rattle.sp_core.specs.Declarations.{is_among}
use Rattle.sp_core.specs.Events.{Standing, inside_at, before, in_turn, Moment, entry_moments, bounds_moments, moments}
use Rattle.sp_core.specs.History.{Entry, History, Turns, last_word, inner_ran, outer_ran, fsm_ran, branch_ran, moved, picked, no_turn, more_turn}
use Rattle.sp_core.specs.Invariant.{owned_in}
use Rattle.sp_core.specs.Numbering.{counters_size, node_count, number_count}
use Rattle.sp_core.specs.PlainCore.{PlainOp, PlainCounter, PlainNode, PlainStages, branch, no_stage, more_stage, PlainCore}
use Rattle.sp_core.specs.Scope.{in_lanes, loops_of, group_values}
use Rattle.sp_plan.specs.PlainPlan.{PlainPlan, node_plan}
use Rattle.sp_plan.specs.Validity.{stage_count}
use Rattle.sp_time.specs.Beats.{Run}
use Rattle.sp_time.specs.Lists.{Each, total}
use Rattle.sp_machine.specs.Laws.{told, TellsAll}
use Rattle.sp_machine.specs.Stamps.{Stamped, Copies, stamped, later, list_stamped, in_a_row, list_run, kept_run}
use Rattle.sp_machine.specs.Timeline.{timed, slots_of, in_copies, fresh_events}
use Rattle.sp_machine.specs.Transfers.{Delays}
use Rattle.sp_overlap.specs.Whole.{IsTimed, AreTimed}
use Rattle.sp_node_runs.specs.Runs.{Placed, events_of, over_at, list_took, side_runs, turn_of, table, stage_at, node_at, number_at, stage_runs}
use Rattle.sp_node_runs.specs.RunsTold.{all_events, branch_alone, turns_alone, fsm_alone, fresh_from, outer_alone, SidesAreTold, BodiesAreTold, StagesAreTold}
use Rattle.sp_tree_events.specs.OwnersOwning.{Deed, deed_mem, OwnAgree, IsOwned, RunsOwn, SidesOwn, BodiesOwn, StagesOwn}
use Rattle.sp_tree_events.proofs.OwnersDeeds.{each_append, among_first, among_rest, entry_owned, bounds_owned}
use Rattle.sp_tree_events.proofs.OwnersWeighing.{weight, some_weigh, weigh_some, none_weigh}

agree_by : (whole part : List Stamped) (m : ℕ) → ((t c : ℕ) (d : Deed) → deed_mem d ≡ m → sum_by (weight t c d) whole ≡ sum_by (weight t c d) part) → OwnAgree whole part m
agree_by whole part m same t c d at =
    let q = same t c d at in (
      λ h. (let w = some_weigh t c d whole h in weigh_some t c d part (omega (arith, w, q))),
      λ h. (let w = some_weigh t c d part h in weigh_some t c d whole (omega (arith, w, q))),
    )

abbrev AreOwned : List ℕ → List Stamped → Type 0
AreOwned os xs = Each (λ x. IsOwned os x.moment) xs

each_told : (os : List ℕ) (es : List Stamped) → Each (IsOwned os) (told es) → AreOwned os es
each_told os [] h = tt
each_told os (e ∷ es) h = (h.0, each_told os es h.1)

pub later_owned : (os : List ℕ) (n : ℕ) (es : List Stamped) → AreOwned os es → AreOwned os (later n es)
later_owned os n [] h = tt
later_owned os n (e ∷ es) h = (h.0, later_owned os n es h.1)

pub stamped_owned : (os : List ℕ) (copies : Copies) (t : ℕ) (ms : List Moment) → Each (IsOwned os) ms → AreOwned os (stamped copies t ms)
stamped_owned os copies t [] h = tt
stamped_owned os copies t (m ∷ ms) h = (h.0, stamped_owned os copies t ms h.1)

module _ (core : PlainCore) where
  row_owned : (os : List ℕ) (copies : Copies) (f : ℕ → ℕ) (i n : ℕ) (st : Standing) (ops : List PlainOp) (es : List Entry) → AreOwned os (list_stamped copies f i n st ops es)
  row_owned os copies f i n st [] es = tt
  row_owned os copies f i n st (op ∷ ops) [] = tt
  row_owned os copies f i n st (op ∷ ops) (e ∷ es) =
      each_append (λ x. IsOwned os x.moment) (stamped copies (f i) (entry_moments n st op.kind op.mem e)) (list_stamped copies f (suc i) (suc n) st ops es)
      (stamped_owned os copies (f i) (entry_moments n st op.kind op.mem e) (entry_owned core os n st op e)) (row_owned os copies f (suc i) (suc n) st ops es)

  pub list_owned : (os : List ℕ) (cycle : ℕ) (copies : Copies) (n : ℕ) (st : Standing) (ops : List PlainOp) (es : List Entry) → AreOwned os (later cycle (list_run core copies n st ops es).events)
  list_owned os cycle copies n st ops es = later_owned os cycle _ (row_owned os copies (in_a_row core ops) 0 n st ops es)

  kept_owned : (cycle : ℕ) (copies : Copies) (n : ℕ) (st : Standing) (ops : List PlainOp) (es : List Entry) (state word : ℕ) → AreOwned (state ∷ []) (later cycle (kept_run core copies n st ops es state word).events)
  kept_owned cycle copies n st ops es state word = later_owned (state ∷ []) cycle _ (each_append (λ x. IsOwned (state ∷ []) x.moment) (list_run core copies n st ops es).events _ (row_owned (state ∷ []) copies (in_a_row core ops) 0 n st ops es) (among_first state [], tt))

  module _ (plan : PlainPlan) (delays : Delays) where
    -- what a node does by itself
    branch_owned : (k n : ℕ) (test : List PlainOp) (first second : PlainNode) (r : Placed) (h : History) → AreOwned [] (branch_alone core plan delays k n test first second r h)
    unfolding timed moments
    branch_owned k n test first second r (branch_ran es side h) = list_owned [] (r.cycle + 1) r.copies n (inside_at r.standing k (in_turn 0) []) test es
    branch_owned k n test first second r (inner_ran bs counts groups) = tt
    branch_owned k n test first second r (outer_ran bs counts groups) = tt
    branch_owned k n test first second r (fsm_ran first' ts last) = tt
    branch_owned k n test first second r (moved taken words) = tt
    branch_owned k n test first second r (picked es words) = tt

    module _ (k n : ℕ) (start : List PlainOp) (state : ℕ) (test : List PlainOp) (body : PlainNode) (next : List PlainOp) where
      turns_owned : (r : Placed) (u at : ℕ) (ts : Turns) (last : List Entry) → AreOwned (state ∷ []) (turns_alone core plan delays k n start state test body next r u at ts last)
      turns_owned r u at no_turn last = list_owned (state ∷ []) at r.copies (n + length start) (inside_at r.standing k (in_turn u) []) test last
      turns_owned r u at (more_turn es h ns rest) last =
          let over : ℕ = over_at core plan delays body (suc k) (n + (length start + length test)) (turn_of core plan delays start test next body k n r u at h) in
          each_append (λ x. IsOwned (state ∷ []) x.moment) (later at (list_run core r.copies (n + length start) (inside_at r.standing k (in_turn u) []) test es).events) _ (list_owned (state ∷ []) at r.copies (n + length start) (inside_at r.standing k (in_turn u) []) test es)
          (each_append (λ x. IsOwned (state ∷ []) x.moment) (later over (kept_run core r.copies (n + (length start + (length test + number_count body))) (inside_at r.standing k (in_turn u) []) next ns state (last_word ns)).events) _
          (kept_owned over r.copies (n + (length start + (length test + number_count body))) (inside_at r.standing k (in_turn u) []) next ns state (last_word ns)) (turns_owned r (suc u) (over + list_took core plan delays next) rest last))

      fsm_owned : (r : Placed) (h : History) → AreOwned (state ∷ []) (fsm_alone core plan delays k n start state test body next r h)
      unfolding timed moments
      fsm_owned r (fsm_ran first ts last) =
          each_append (λ x. IsOwned (state ∷ []) x.moment) (later (r.cycle + 1) (kept_run core r.copies n (inside_at r.standing k before []) start first state (last_word first)).events) _
          (kept_owned (r.cycle + 1) r.copies n (inside_at r.standing k before []) start first state (last_word first)) (turns_owned r 0 (r.cycle + (1 + list_took core plan delays start)) ts last)
      fsm_owned r (inner_ran bs counts groups) = tt
      fsm_owned r (outer_ran bs counts groups) = tt
      fsm_owned r (branch_ran es side h) = tt
      fsm_owned r (moved taken words) = tt
      fsm_owned r (picked es words) = tt

    module _ (k n : ℕ) (counters : List PlainCounter) (style : Style) (owned : List ℕ) (stages : PlainStages) where
      fresh_owned : (r : Placed) (runs : List (List (Run Stamped))) (copies : Copies) (g : ℕ) (os more : List ℕ) → ((m : ℕ) → is_among m os ≡ true → is_among m more ≡ true) → AreOwned more (fresh_events core plan delays (slots_of (node_plan plan k)) runs (node_plan plan k) stages copies g os)
      fresh_owned r runs copies g [] more h = tt
      fresh_owned r runs copies g (m ∷ os) more h = (h m (among_first m os), fresh_owned r runs copies g os more (λ x q. h x (among_rest x m os q)))

      all_fresh_owned : (r : Placed) (runs : List (List (Run Stamped))) (g : ℕ) (rows : List (List (Run Stamped))) → AreOwned owned (fresh_from core plan delays k n counters style owned stages r runs g rows)
      all_fresh_owned r runs g [] = tt
      all_fresh_owned r runs g (row ∷ rows) =
          each_append (λ x. IsOwned owned x.moment) (later r.cycle (fresh_events core plan delays (slots_of (node_plan plan k)) runs (node_plan plan k) stages (in_copies core plan delays owned g r.copies) g owned)) _
          (later_owned owned r.cycle _ (fresh_owned r runs (in_copies core plan delays owned g r.copies) g owned owned (λ x q. q))) (all_fresh_owned r runs (suc g) rows)

      outer_owned : (r : Placed) (h : History) → AreOwned owned (outer_alone core plan delays k n counters style owned stages r h)
      unfolding timed moments
      outer_owned r (outer_ran bs counts groups) =
          each_append (λ x. IsOwned owned x.moment) (later r.cycle (stamped r.copies 0 (bounds_moments n (inside_at r.standing k before []) counters bs))) _
          (later_owned owned r.cycle _ (stamped_owned owned r.copies 0 (bounds_moments n (inside_at r.standing k before []) counters bs) (bounds_owned core owned counters bs n (inside_at r.standing k before []))))
          (all_fresh_owned r (table core plan delays counters owned stages k n 0 r (group_values (loops_of in_lanes counters bs)) groups) 0 (table core plan delays counters owned stages k n 0 r (group_values (loops_of in_lanes counters bs)) groups))
      outer_owned r (inner_ran bs counts groups) = tt
      outer_owned r (branch_ran es side h) = tt
      outer_owned r (fsm_ran first ts last) = tt
      outer_owned r (moved taken words) = tt
      outer_owned r (picked es words) = tt

    each_run : (os : List ℕ) (f : Placed → List Stamped) (runs : List Placed) → ((r : Placed) → AreOwned os (f r)) → AreOwned os (flat_map f runs)
    each_run os f [] h = tt
    each_run os f (r ∷ runs) h = each_append (λ x. IsOwned os x.moment) (f r) (flat_map f runs) (h r) (each_run os f runs h)

    module _ (tells : (node : PlainNode) → TellsAll core plan delays node) (own : (node : PlainNode) → RunsOwn core node) where
      pub runs_owned : (node : PlainNode) (k n : ℕ) → IsTimed node → (runs : List Placed) → AreOwned (owned_in node) (all_events core plan delays node k n runs)
      runs_owned node k n timed_node runs =
          each_run (owned_in node) (events_of core plan delays node k n) runs
          (λ r. later_owned (owned_in node) r.cycle _ (each_told (owned_in node) _ (subst (Each (IsOwned (owned_in node))) (sym (tells node k n r.standing r.copies r.history)) (own node timed_node k n r.standing r.history))))

      pub sides_own : SidesAreTold core plan delays → SidesOwn core plan delays
      sides_own sides k n test first second runs m timed_first timed_second = (one, other)
        where
          one : is_among m (owned_in second) ≡ false → OwnAgree (all_events core plan delays (branch test first second) k n runs) (all_events core plan delays first (suc k) (n + length test) (side_runs core plan delays test k true runs)) m
          one out = agree_by _ _ m (λ t c d at.
              let alone = none_weigh t c d [] refl _ (each_run [] (λ r. branch_alone core plan delays k n test first second r r.history) runs (λ r. branch_owned k n test first second r r.history)) in
              let rest = none_weigh t c d (owned_in second) (subst (λ x. is_among x (owned_in second) ≡ false) (sym at) out) _ (runs_owned second (suc k + node_count first) (n + (length test + number_count first)) timed_second (side_runs core plan delays test k false runs)) in
              let all = sides (weight t c d) k n test first second runs in
              omega (arith, alone, rest, all))

          other : is_among m (owned_in first) ≡ false → OwnAgree (all_events core plan delays (branch test first second) k n runs) (all_events core plan delays second (suc k + node_count first) (n + (length test + number_count first)) (side_runs core plan delays test k false runs)) m
          other out = agree_by _ _ m (λ t c d at.
              let alone = none_weigh t c d [] refl _ (each_run [] (λ r. branch_alone core plan delays k n test first second r r.history) runs (λ r. branch_owned k n test first second r r.history)) in
              let rest = none_weigh t c d (owned_in first) (subst (λ x. is_among x (owned_in first) ≡ false) (sym at) out) _ (runs_owned first (suc k) (n + length test) timed_first (side_runs core plan delays test k true runs)) in
              let all = sides (weight t c d) k n test first second runs in
              omega (arith, alone, rest, all))

      pub bodies_own : BodiesAreTold core plan delays → BodiesOwn core plan delays
      bodies_own bodies k n start state test body next runs m timed_body out = agree_by _ _ m (λ t c d at.
          let alone = none_weigh t c d (state ∷ []) (subst (λ x. is_among x (state ∷ []) ≡ false) (sym at) out) _ (each_run (state ∷ []) (λ r. fsm_alone core plan delays k n start state test body next r r.history) runs (λ r. fsm_owned k n start state test body next r r.history)) in
          let all = bodies (weight t c d) k n start state test body next runs in
          omega (arith, alone, all))

      pub stage_timed : (stages : PlainStages) → AreTimed stages → (s : ℕ) → IsTimed (stage_at stages s)
      stage_timed no_stage h s = tt
      stage_timed (more_stage first last comb node rest) h zero = h.0
      stage_timed (more_stage first last comb node rest) h (suc s) = stage_timed rest h.1 s

      pub total_none : (f : ℕ → ℕ) (count : ℕ) → ((s : ℕ) → s < count → f s ≡ 0) → total f count ≡ 0
      total_none f zero h = refl
      total_none f (suc n) h = let a = total_none f n (λ s l. h s (omega (arith, l))) in let b = h n (omega arith) in omega (arith, a, b)

      total_one : (f : ℕ → ℕ) (count i : ℕ) → i < count → ((s : ℕ) → (s < i) ⊎ (i < s) → f s ≡ 0) → total f count ≡ f i
      total_one f zero i l h = absurd (omega (arith, l))
      total_one f (suc n) i l h = elim (cases_lt i n) [
        | inl below ↦ let a = total_one f n i below h in let b = h n (inr below) in omega (arith, a, b)
        | inr at ↦ (
            let same : n ≡ i = omega (arith, at, l) in
            let a = total_none f n (λ s q. h s (inl (omega (arith, q, same)))) in
            let b : f n ≡ f i = ap f same in
            omega (arith, a, b)
            )
      ]

      pub stages_own : StagesAreTold core plan delays → StagesOwn core plan delays
      stages_own stages_told k n counters style owned stages runs m timed_stages out i few others = agree_by _ _ m (λ t c d at.
          let alone = none_weigh t c d owned (subst (λ x. is_among x owned ≡ false) (sym at) out) _ (each_run owned (λ r. outer_alone core plan delays k n counters style owned stages r r.history) runs (λ r. outer_owned k n counters style owned stages r r.history)) in
          let all = stages_told (weight t c d) k n counters style owned stages runs in
          let one = total_one (λ s. sum_by (weight t c d) (part s)) (stage_count stages) i few (λ s q.
          none_weigh t c d (owned_in (stage_at stages s)) (subst (λ x. is_among x (owned_in (stage_at stages s)) ≡ false) (sym at) (others s q)) (part s)
          (runs_owned (stage_at stages s) (node_at stages (suc k) s) (number_at stages (n + counters_size counters) s) (stage_timed stages timed_stages s) (stage_runs core plan delays counters owned stages k n s runs))) in
          omega (arith, alone, all, one))
        where
          part : ℕ → List Stamped
          part s = all_events core plan delays (stage_at stages s) (node_at stages (suc k) s) (number_at stages (n + counters_size counters) s) (stage_runs core plan delays counters owned stages k n s runs)
