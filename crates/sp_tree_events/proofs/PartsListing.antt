-- The events of lists of operations are those of their node.
use Rattle.std.proofs.Common.{◌≡◌, ℕ, suc, ◌+◌, ◌<◌, ◌≤◌, ◌⊎◌, inl, inr, true, false, List, [], ◌∷◌, ◌++◌, map, length, flat_map, sum_by, refl, sym, ap, arith}
use Rattle.std.proofs.lemmas.List.{map-append}
use Rattle.std.proofs.lemmas.List.Sums.{sum_by-append}
use Rattle.sp_core.specs.Events.{Standing, inside_at, before, in_turn, Event, keeps, moments}
use Rattle.sp_core.specs.History.{Entry, History, Turns, last_word, inner_ran, outer_ran, fsm_ran, branch_ran, moved, picked, no_turn, more_turn}
use Rattle.sp_core.specs.Numbering.{node_count, number_count}
use Rattle.sp_core.specs.PlainCore.{PlainOp, PlainNode, fsm, PlainCore}
use Rattle.sp_core.specs.Scope.{Scope}
use Rattle.sp_core.specs.Latency.{latency_of_all}
use Rattle.sp_plan.specs.PlainPlan.{PlainPlan}
use Rattle.sp_machine.specs.Laws.{TellsAll}
use Rattle.sp_machine.specs.Stamps.{Stamped, Copies, stamped, moved as moved_on, later, list_run, kept_run}
use Rattle.sp_machine.specs.Timeline.{timed}
use Rattle.sp_machine.specs.Transfers.{Delays}
use Rattle.sp_node_runs.specs.Runs.{Placed, over_at, list_took, side_runs, turn_of, body_runs}
use Rattle.sp_node_runs.specs.RunsTold.{all_events, branch_alone, turns_alone, fsm_alone, SidesAreTold, BodiesAreTold}
use Rattle.sp_node_runs.specs.BodiesLists.{ListRun, list_events, all_listed}
use Rattle.sp_tree_runs.specs.BodiesScoped.{Scoped, placed}
use Rattle.sp_tree_runs.specs.BodiesScopes.{tested_in, test_list}
use Rattle.sp_tree_runs.specs.BodiesTurns.{started_in, start_list, body_took, tests_in, nexts_in, test_lists_in, next_lists_in, test_lists, next_lists}
use Rattle.sp_tree_events.specs.ToldLaws.{NumbersAreWithin}
use Rattle.sp_tree_events.specs.PartsAgreeing.{AgreeIn}
use Rattle.sp_tree_events.proofs.PartsStepping.{agree_by, later_within, row_within, kept_within, runs_within}
use Rattle.sp_tree_events.proofs.PartsTests.{weight, none_weigh}
use Rattle.sp_tree_events.specs.PartsLists.{BranchTestsAgree, MachineListsAgree}

module _ (core : PlainCore) (plan : PlainPlan) (delays : Delays) (tells : (node : PlainNode) → TellsAll core plan delays node) (numbers : (node : PlainNode) → NumbersAreWithin core node) where
  module _ (t c : ℕ) (e : Event) where
    abbrev weighs : List Stamped → ℕ
    weighs xs = sum_by (weight t c e) xs

    -- lists of runs one by one
    each_run : (f : Placed → List Stamped) (g : Scoped → List Stamped) (qs : List Scoped) → ((q : Scoped) → weighs (f q.run) ≡ weighs (g q)) → weighs (flat_map f (placed qs)) ≡ weighs (flat_map g qs)
    each_run f g [] h = refl
    each_run f g (q ∷ qs) h =
        let a = sum_by-append (weight t c e) (f q.run) (flat_map f (placed qs)) in
        let b = sum_by-append (weight t c e) (g q) (flat_map g qs) in
        let x = h q in
        let y = each_run f g qs h in
        omega (arith, a, b, x, y)

    joined_lists : (n : ℕ) (ops : List PlainOp) (f : Scoped → List ListRun) (qs : List Scoped) → weighs (all_listed core n ops (flat_map f qs)) ≡ weighs (flat_map (λ q. all_listed core n ops (f q)) qs)
    joined_lists n ops f [] = refl
    joined_lists n ops f (q ∷ qs) =
        let a = listed_append (f q) (flat_map f qs) in
        let b = sum_by-append (weight t c e) (all_listed core n ops (f q)) (flat_map (λ q. all_listed core n ops (f q)) qs) in
        let r = joined_lists n ops f qs in
        omega (arith, a, b, r)
      where
        listed_append : (xs ys : List ListRun) → weighs (all_listed core n ops (xs ++ ys)) ≡ weighs (all_listed core n ops xs) + weighs (all_listed core n ops ys)
        listed_append [] ys = omega arith
        listed_append (x ∷ xs) ys =
            let a = sum_by-append (weight t c e) (list_events core n ops x) (all_listed core n ops (xs ++ ys)) in
            let b = sum_by-append (weight t c e) (list_events core n ops x) (all_listed core n ops xs) in
            let r = listed_append xs ys in
            omega (arith, a, b, r)

    mapped_lists : (n : ℕ) (ops : List PlainOp) (f : Scoped → ListRun) (qs : List Scoped) → weighs (all_listed core n ops (map f qs)) ≡ weighs (flat_map (λ q. list_events core n ops (f q)) qs)
    mapped_lists n ops f [] = refl
    mapped_lists n ops f (q ∷ qs) =
        let a = sum_by-append (weight t c e) (list_events core n ops (f q)) (all_listed core n ops (map f qs)) in
        let b = sum_by-append (weight t c e) (list_events core n ops (f q)) (flat_map (λ q. list_events core n ops (f q)) qs) in
        let r = mapped_lists n ops f qs in
        omega (arith, a, b, r)

    -- a list that did nothing has no event
    nothing_listed : (cycle n : ℕ) (copies : Copies) (st : Standing) (ops : List PlainOp) → weighs (later cycle (list_run core copies n st ops []).events) ≡ 0
    nothing_listed cycle n copies st [] = refl
    nothing_listed cycle n copies st (op ∷ ops) = refl

    same_later : (a b : ℕ) (xs : List Stamped) → a ≡ b → weighs (later a xs) ≡ weighs (later b xs)
    same_later a b xs h = ap (λ x. weighs (later x xs)) h

    two_parts : (xs ys : List Stamped) → weighs (xs ++ ys) ≡ weighs xs + weighs ys
    two_parts xs ys = sum_by-append (weight t c e) xs ys

    -- what an FSM keeps is no event
    kept_weighs : (cycle : ℕ) (copies : Copies) (n : ℕ) (st : Standing) (ops : List PlainOp) (es : List Entry) (state word : ℕ) → weighs (later cycle (kept_run core copies n st ops es state word).events) ≡ weighs (later cycle (list_run core copies n st ops es).events)
    kept_weighs cycle copies n st ops es state word =
        let a : List Stamped = (list_run core copies n st ops es).events in
        let b : List Stamped = stamped copies (1 + latency_of_all core ops) (keeps state word ∷ []) in
        let split : weighs (later cycle (a ++ b)) ≡ weighs (later cycle a ++ later cycle b) = ap weighs (map-append (moved_on cycle) a b) in
        let parts = two_parts (later cycle a) (later cycle b) in
        let none : weighs (later cycle b) ≡ 0 = none_weigh t c e 0 0 (inr (omega arith)) (later cycle b) (tt, tt) in
        omega (arith, split, parts, none)

    row_zero : (cycle : ℕ) (copies : Copies) (n : ℕ) (st : Standing) (ops : List PlainOp) (es : List Entry) → (e.number < n) ⊎ (n + length ops ≤ e.number) → weighs (later cycle (list_run core copies n st ops es).events) ≡ 0
    row_zero cycle copies n st ops es out = none_weigh t c e n (n + length ops) out _ (later_within n (n + length ops) cycle _ (row_within core copies n st ops es))

    kept_zero : (cycle : ℕ) (copies : Copies) (n : ℕ) (st : Standing) (ops : List PlainOp) (es : List Entry) (state word : ℕ) → (e.number < n) ⊎ (n + length ops ≤ e.number) → weighs (later cycle (kept_run core copies n st ops es state word).events) ≡ 0
    kept_zero cycle copies n st ops es state word out = none_weigh t c e n (n + length ops) out _ (later_within n (n + length ops) cycle _ (kept_within core copies n st ops es state word))

    -- the test of a branch
    branch_one : (k n : ℕ) (test : List PlainOp) (first second : PlainNode) (q : Scoped) (h : History) → weighs (branch_alone core plan delays k n test first second q.run h) ≡ weighs (later (suc q.run.cycle) (list_run core q.run.copies n (inside_at q.run.standing k (in_turn 0) []) test (tested_in h)).events)
    unfolding timed moments
    branch_one k n test first second q (branch_ran es side h) = same_later (q.run.cycle + 1) (suc q.run.cycle) (list_run core q.run.copies n (inside_at q.run.standing k (in_turn 0) []) test es).events (omega arith)
    branch_one k n test first second q (inner_ran bs counts groups) = sym (nothing_listed (suc q.run.cycle) n q.run.copies (inside_at q.run.standing k (in_turn 0) []) test)
    branch_one k n test first second q (outer_ran bs counts groups) = sym (nothing_listed (suc q.run.cycle) n q.run.copies (inside_at q.run.standing k (in_turn 0) []) test)
    branch_one k n test first second q (fsm_ran first' ts last) = sym (nothing_listed (suc q.run.cycle) n q.run.copies (inside_at q.run.standing k (in_turn 0) []) test)
    branch_one k n test first second q (moved taken words) = sym (nothing_listed (suc q.run.cycle) n q.run.copies (inside_at q.run.standing k (in_turn 0) []) test)
    branch_one k n test first second q (picked es words) = sym (nothing_listed (suc q.run.cycle) n q.run.copies (inside_at q.run.standing k (in_turn 0) []) test)

    -- the lists of an FSM
    module _ (k n : ℕ) (start : List PlainOp) (state : ℕ) (test : List PlainOp) (body : PlainNode) (next : List PlainOp) where
      abbrev after : ℕ
      after = n + (length start + (length test + number_count body))

      abbrev alone_from : Placed → (turn cycle : ℕ) → Turns → List Entry → List Stamped
      alone_from r u at ts last = turns_alone core plan delays k n start state test body next r u at ts last

      abbrev over : Placed → (turn cycle : ℕ) → History → ℕ
      over r u at h = over_at core plan delays body (suc k) (n + (length start + length test)) (turn_of core plan delays start test next body k n r u at h)

      abbrev test_row : Placed → (turn cycle : ℕ) → List Entry → List Stamped
      test_row r u at es = later at (list_run core r.copies (n + length start) (inside_at r.standing k (in_turn u) []) test es).events

      abbrev next_row : Placed → (turn cycle : ℕ) → List Entry → List Stamped
      next_row r u at es = later at (list_run core r.copies after (inside_at r.standing k (in_turn u) []) next es).events

      abbrev next_kept : Placed → (turn cycle : ℕ) → List Entry → List Stamped
      next_kept r u at es = later at (kept_run core r.copies after (inside_at r.standing k (in_turn u) []) next es state (last_word es)).events

      -- where neither is of the number
      none_in : (e.number < n + length start) → (r : Placed) (u at : ℕ) (ts : Turns) (last : List Entry) → weighs (alone_from r u at ts last) ≡ 0
      none_in low r u at no_turn last = row_zero at r.copies (n + length start) (inside_at r.standing k (in_turn u) []) test last (inl low)
      none_in low r u at (more_turn es h ns rest) last =
          let a = two_parts (test_row r u at es) (next_kept r u (over r u at h) ns ++ alone_from r (suc u) (over r u at h + list_took core plan delays next) rest last) in
          let b = two_parts (next_kept r u (over r u at h) ns) (alone_from r (suc u) (over r u at h + list_took core plan delays next) rest last) in
          let x = row_zero at r.copies (n + length start) (inside_at r.standing k (in_turn u) []) test es (inl low) in
          let y = kept_zero (over r u at h) r.copies after (inside_at r.standing k (in_turn u) []) next ns state (last_word ns) (inl (omega (arith, low))) in
          let z = none_in low r (suc u) (over r u at h + list_took core plan delays next) rest last in
          omega (arith, a, b, x, y, z)

      tests_are : (n + length start ≤ e.number) → (e.number < n + length start + length test) → (r : Placed) (scope : Scope) (u at p : ℕ) (ts : Turns) (last : List Entry) → at ≡ p
          → weighs (alone_from r u at ts last) ≡ weighs (all_listed core (n + length start) test (tests_in core plan delays k n start test body next r scope u p ts last))
      tests_are low high r scope u at p no_turn last same =
          let a = same_later at p (list_run core r.copies (n + length start) (inside_at r.standing k (in_turn u) []) test last).events same in
          let b = two_parts (test_row r u p last) [] in
          omega (arith, a, b)
      tests_are low high r scope u at p (more_turn es h ns rest) last same =
          let later_at : ℕ = p + list_took core plan delays test + body_took core plan delays k n start test body next r u h + list_took core plan delays next in
          let a = two_parts (test_row r u at es) (next_kept r u (over r u at h) ns ++ alone_from r (suc u) (over r u at h + list_took core plan delays next) rest last) in
          let b = two_parts (next_kept r u (over r u at h) ns) (alone_from r (suc u) (over r u at h + list_took core plan delays next) rest last) in
          let x = same_later at p (list_run core r.copies (n + length start) (inside_at r.standing k (in_turn u) []) test es).events same in
          let y = kept_zero (over r u at h) r.copies after (inside_at r.standing k (in_turn u) []) next ns state (last_word ns) (inl (omega (arith, high))) in
          let z = tests_are low high r scope (suc u) (over r u at h + list_took core plan delays next) later_at rest last (ap (λ v. v + list_took core plan delays test + body_took core plan delays k n start test body next r u h + list_took core plan delays next) same) in
          let d = two_parts (test_row r u p es) (all_listed core (n + length start) test (tests_in core plan delays k n start test body next r scope (suc u) later_at rest last)) in
          omega (arith, a, b, x, y, z, d)

      nexts_are : (after ≤ e.number) → (r : Placed) (scope : Scope) (u at p : ℕ) (ts : Turns) (last : List Entry) → at ≡ p
          → weighs (alone_from r u at ts last) ≡ weighs (all_listed core after next (nexts_in core plan delays k n start test body next r scope u p ts))
      nexts_are low r scope u at p no_turn last same = row_zero at r.copies (n + length start) (inside_at r.standing k (in_turn u) []) test last (inr (omega (arith, low)))
      nexts_are low r scope u at p (more_turn es h ns rest) last same =
          let next_at : ℕ = p + list_took core plan delays test + body_took core plan delays k n start test body next r u h in
          let later_at : ℕ = next_at + list_took core plan delays next in
          let a = two_parts (test_row r u at es) (next_kept r u (over r u at h) ns ++ alone_from r (suc u) (over r u at h + list_took core plan delays next) rest last) in
          let b = two_parts (next_kept r u (over r u at h) ns) (alone_from r (suc u) (over r u at h + list_took core plan delays next) rest last) in
          let moved_same : over r u at h ≡ next_at = ap (λ v. v + list_took core plan delays test + body_took core plan delays k n start test body next r u h) same in
          let x = row_zero at r.copies (n + length start) (inside_at r.standing k (in_turn u) []) test es (inr (omega (arith, low))) in
          let y = kept_weighs (over r u at h) r.copies after (inside_at r.standing k (in_turn u) []) next ns state (last_word ns) in
          let w = same_later (over r u at h) next_at (list_run core r.copies after (inside_at r.standing k (in_turn u) []) next ns).events moved_same in
          let z = nexts_are low r scope (suc u) (over r u at h + list_took core plan delays next) later_at rest last (ap (λ v. v + list_took core plan delays next) moved_same) in
          let d = two_parts (next_row r u next_at ns) (all_listed core after next (nexts_in core plan delays k n start test body next r scope (suc u) later_at rest)) in
          omega (arith, a, b, x, y, w, z, d)

      abbrev alone : Placed → History → List Stamped
      alone r h = fsm_alone core plan delays k n start state test body next r h

      abbrev begin : Placed → List Entry → List Stamped
      begin r es = later (r.cycle + 1) (kept_run core r.copies n (inside_at r.standing k before []) start es state (last_word es)).events

      start_one : (e.number < n + length start) → (q : Scoped) (h : History) → weighs (alone q.run h) ≡ weighs (later (suc q.run.cycle) (list_run core q.run.copies n (inside_at q.run.standing k before []) start (started_in core plan delays k n start test body next h)).events)
      unfolding timed moments
      start_one high q (fsm_ran first ts last) =
          let a = two_parts (begin q.run first) (alone_from q.run 0 (q.run.cycle + (1 + list_took core plan delays start)) ts last) in
          let x = kept_weighs (q.run.cycle + 1) q.run.copies n (inside_at q.run.standing k before []) start first state (last_word first) in
          let y = same_later (q.run.cycle + 1) (suc q.run.cycle) (list_run core q.run.copies n (inside_at q.run.standing k before []) start first).events (omega arith) in
          let z = none_in high q.run 0 (q.run.cycle + (1 + list_took core plan delays start)) ts last in
          omega (arith, a, x, y, z)
      start_one high q (inner_ran bs counts groups) = sym (nothing_listed (suc q.run.cycle) n q.run.copies (inside_at q.run.standing k before []) start)
      start_one high q (outer_ran bs counts groups) = sym (nothing_listed (suc q.run.cycle) n q.run.copies (inside_at q.run.standing k before []) start)
      start_one high q (branch_ran es side h) = sym (nothing_listed (suc q.run.cycle) n q.run.copies (inside_at q.run.standing k before []) start)
      start_one high q (moved taken words) = sym (nothing_listed (suc q.run.cycle) n q.run.copies (inside_at q.run.standing k before []) start)
      start_one high q (picked es words) = sym (nothing_listed (suc q.run.cycle) n q.run.copies (inside_at q.run.standing k before []) start)

      test_one : (n + length start ≤ e.number) → (e.number < n + length start + length test) → (q : Scoped) (h : History) → weighs (alone q.run h) ≡ weighs (all_listed core (n + length start) test (test_lists_in core plan delays k n start test body next q h))
      unfolding timed moments
      test_one low high q (fsm_ran first ts last) =
          let a = two_parts (begin q.run first) (alone_from q.run 0 (q.run.cycle + (1 + list_took core plan delays start)) ts last) in
          let x = kept_zero (q.run.cycle + 1) q.run.copies n (inside_at q.run.standing k before []) start first state (last_word first) (inr low) in
          let z = tests_are low high q.run q.scope 0 (q.run.cycle + (1 + list_took core plan delays start)) (suc q.run.cycle + list_took core plan delays start) ts last (omega arith) in
          omega (arith, a, x, z)
      test_one low high q (inner_ran bs counts groups) = refl
      test_one low high q (outer_ran bs counts groups) = refl
      test_one low high q (branch_ran es side h) = refl
      test_one low high q (moved taken words) = refl
      test_one low high q (picked es words) = refl

      next_one : (after ≤ e.number) → (q : Scoped) (h : History) → weighs (alone q.run h) ≡ weighs (all_listed core after next (next_lists_in core plan delays k n start test body next q h))
      unfolding timed moments
      next_one low q (fsm_ran first ts last) =
          let a = two_parts (begin q.run first) (alone_from q.run 0 (q.run.cycle + (1 + list_took core plan delays start)) ts last) in
          let x = kept_zero (q.run.cycle + 1) q.run.copies n (inside_at q.run.standing k before []) start first state (last_word first) (inr (omega (arith, low))) in
          let z = nexts_are low q.run q.scope 0 (q.run.cycle + (1 + list_took core plan delays start)) (suc q.run.cycle + list_took core plan delays start) ts last (omega arith) in
          omega (arith, a, x, z)
      next_one low q (inner_ran bs counts groups) = refl
      next_one low q (outer_ran bs counts groups) = refl
      next_one low q (branch_ran es side h) = refl
      next_one low q (moved taken words) = refl
      next_one low q (picked es words) = refl

  pub branch_tests_agree : SidesAreTold core plan delays → BranchTestsAgree core plan delays
  branch_tests_agree sides k n test first second qs timed_first timed_second x low high = agree_by _ _ x (λ t c e at.
      let all = sides (weight t c e) k n test first second (placed qs) in
      let one = none_weigh t c e (n + length test) (n + length test + number_count first) (inl (omega (arith, high, at))) _ (runs_within core plan delays tells numbers first (suc k) (n + length test) timed_first (side_runs core plan delays test k true (placed qs))) in
      let other = none_weigh t c e (n + (length test + number_count first)) (n + (length test + number_count first) + number_count second) (inl (omega (arith, high, at))) _ (runs_within core plan delays tells numbers second (suc k + node_count first) (n + (length test + number_count first)) timed_second (side_runs core plan delays test k false (placed qs))) in
      let alone = each_run t c e (λ r. branch_alone core plan delays k n test first second r r.history) (λ q. list_events core n test (test_list k q)) qs (λ q. branch_one t c e k n test first second q q.run.history) in
      let listed = mapped_lists t c e n test (test_list k) qs in
      omega (arith, all, one, other, alone, listed))

  pub machine_lists_agree : BodiesAreTold core plan delays → MachineListsAgree core plan delays
  machine_lists_agree bodies k n start state test body next qs timed_body = record { starts = starts; tests = tests; nexts = nexts }
    where
      inside : ℕ
      inside = n + (length start + length test)

      body_zero : (t c : ℕ) (e : Event) → (e.number < n + (length start + length test)) ⊎ (n + (length start + length test) + number_count body ≤ e.number)
          → sum_by (weight t c e) (all_events core plan delays body (suc k) (n + (length start + length test)) (body_runs core plan delays start test next body k n (placed qs))) ≡ 0
      body_zero t c e out = none_weigh t c e _ _ out _ (runs_within core plan delays tells numbers body (suc k) (n + (length start + length test)) timed_body (body_runs core plan delays start test next body k n (placed qs)))

      starts : AgreeIn (all_events core plan delays (fsm start state test body next) k n (placed qs)) (all_listed core n start (map (start_list core plan delays k n start test body next) qs)) n (n + length start)
      starts x low high = agree_by _ _ x (λ t c e at.
          let all = bodies (weight t c e) k n start state test body next (placed qs) in
          let none = body_zero t c e (inl (omega (arith, high, at))) in
          let alone = each_run t c e (λ r. fsm_alone core plan delays k n start state test body next r r.history) (λ q. list_events core n start (start_list core plan delays k n start test body next q)) qs (λ q. start_one t c e k n start state test body next (omega (arith, high, at)) q q.run.history) in
          let listed = mapped_lists t c e n start (start_list core plan delays k n start test body next) qs in
          omega (arith, all, none, alone, listed))

      tests : AgreeIn (all_events core plan delays (fsm start state test body next) k n (placed qs)) (all_listed core (n + length start) test (test_lists core plan delays k n start test body next qs)) (n + length start) (n + length start + length test)
      tests x low high = agree_by _ _ x (λ t c e at.
          let all = bodies (weight t c e) k n start state test body next (placed qs) in
          let none = body_zero t c e (inl (omega (arith, high, at))) in
          let alone = each_run t c e (λ r. fsm_alone core plan delays k n start state test body next r r.history) (λ q. all_listed core (n + length start) test (test_lists_in core plan delays k n start test body next q q.run.history)) qs (λ q. test_one t c e k n start state test body next (omega (arith, low, at)) (omega (arith, high, at)) q q.run.history) in
          let listed = joined_lists t c e (n + length start) test (λ q. test_lists_in core plan delays k n start test body next q q.run.history) qs in
          omega (arith, all, none, alone, listed))

      nexts : AgreeIn (all_events core plan delays (fsm start state test body next) k n (placed qs)) (all_listed core (n + (length start + (length test + number_count body))) next (next_lists core plan delays k n start test body next qs))
          (n + (length start + (length test + number_count body))) (n + (length start + (length test + number_count body)) + length next)
      nexts x low high = agree_by _ _ x (λ t c e at.
          let all = bodies (weight t c e) k n start state test body next (placed qs) in
          let none = body_zero t c e (inr (omega (arith, low, at))) in
          let alone = each_run t c e (λ r. fsm_alone core plan delays k n start state test body next r r.history) (λ q. all_listed core (n + (length start + (length test + number_count body))) next (next_lists_in core plan delays k n start test body next q q.run.history)) qs (λ q. next_one t c e k n start state test body next (omega (arith, low, at)) q q.run.history) in
          let listed = joined_lists t c e (n + (length start + (length test + number_count body))) next (λ q. next_lists_in core plan delays k n start test body next q q.run.history) qs in
          omega (arith, all, none, alone, listed))
