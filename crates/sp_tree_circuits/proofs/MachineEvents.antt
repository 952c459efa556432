-- What happens in the runs of an FSM by its own: the events of its lists, by their numbers.
use Rattle.std.proofs.Common.{◌≡◌, ℕ, suc, ◌+◌, ◌<◌, ◌≤◌, ◌⊎◌, inl, inr, List, [], ◌∷◌, ◌++◌, map, flat_map, sum_by, length, refl, sym, ap, ◌∙◌, arith}
use Rattle.std.specs.List.{Contains}
use Rattle.std.proofs.lemmas.Grind.{flat_map-append}
use Rattle.std.proofs.lemmas.List.Sums.{sum_by-append}
use Rattle.sp_core.specs.Events.{Standing, inside_at, before, in_turn, Event, touches, keeps}
use Rattle.sp_core.specs.History.{Entry, History, Turns, last_word, fsm_ran, no_turn, more_turn}
use Rattle.sp_core.specs.Numbering.{number_count}
use Rattle.sp_core.specs.PlainCore.{PlainOp, PlainNode, fsm, PlainCore}
use Rattle.sp_core.specs.Scope.{Scope, in_lanes}
use Rattle.sp_plan.specs.PlainPlan.{PlainPlan}
use Rattle.sp_machine.specs.Stamps.{Stamped, Copies, stamp, later, list_run, kept_run}
use Rattle.sp_machine.specs.Transfers.{Delays}
use Rattle.sp_overlap.specs.Whole.{IsTimed}
use Rattle.sp_core.specs.Latency.{latency_of_all}
use Rattle.sp_node_runs.specs.Runs.{Placed, list_took, body_runs}
use Rattle.sp_node_runs.specs.RunsTold.{all_events, turns_alone, fsm_alone}
use Rattle.sp_node_runs.proofs.RunsWeights.{later_both}
use Rattle.sp_node_runs.specs.BodiesLists.{ListRun, list_events, all_listed}
use Rattle.sp_node_runs.proofs.BodiesListed.{none_there, first_or_later}
use Rattle.sp_tree_runs.specs.BodiesDone.{AllDone}
use Rattle.sp_tree_runs.specs.BodiesScoped.{Scoped, placed, AllAreDone}
use Rattle.sp_tree_runs.specs.BodiesTurns.{start_list, body_took, list_in_turn, tests_in, nexts_in, test_lists_in, next_lists_in, test_lists, next_lists}
use Rattle.sp_tree_circuits.specs.Acts.{AreEventsOf}
use Rattle.sp_tree_circuits.proofs.Alike.{weigh, none_like, by_weights}
use Rattle.sp_tree_circuits.specs.Given.{Laws}
use Rattle.sp_tree_circuits.proofs.Listing.{listed_within}
use Rattle.sp_tree_circuits.proofs.Numbers.{numbers_within}

module _ (core : PlainCore) (plan : PlainPlan) (delays : Delays) (laws : Laws core plan delays) (k n : ℕ) (start : List PlainOp) (state : ℕ) (ops : List PlainOp) (node : PlainNode) (after : List PlainOp) where
  abbrev pub whole : PlainNode
  whole = fsm start state ops node after

  -- the first numbers of the test, of the body and of the next word
  abbrev pub at_test : ℕ
  at_test = n + length start

  abbrev pub at_body : ℕ
  at_body = n + (length start + length ops)

  abbrev pub at_next : ℕ
  at_next = n + (length start + (length ops + number_count node))

  module _ (m u : ℕ) (e : Event) where
    abbrev w : List Stamped → ℕ
    w es = sum_by (weigh m u e) es

    -- that a state is kept is no event
    no_event : (x : Stamped) (state word : ℕ) → x.moment ≡ keeps state word → w (x ∷ []) ≡ 0
    no_event x state word is = none_like m u e (x ∷ []) (λ y h. by y h.copy (first_or_later x (record { cycle = u; copy = h.copy; moment = touches y }) [] h.there))
      where
        by : (y : Event) (copy : ℕ) → (x ≡ record { cycle = u; copy = copy; moment = touches y }) ⊎ Contains {X = Stamped} [] (record { cycle = u; copy = copy; moment = touches y }) → ⊥
        by y copy (inl f) = let g = sym is ∙ ap (λ (z : Stamped). z.moment) f in absurd (cc (g))
        by y copy (inr c) = none_there (record { cycle = u; copy = copy; moment = touches y }) c

    kept_sum : (c number : ℕ) (copies : Copies) (st : Standing) (list : List PlainOp) (es : List Entry) (state word : ℕ) → w (later c (kept_run core copies number st list es state word).events) ≡ w (later c (list_run core copies number st list es).events)
    kept_sum c number copies st list es state word =
        let last : Stamped = stamp copies (1 + latency_of_all core list) (keeps state word) in
        let a = ap w (later_both c (list_run core copies number st list es).events (last ∷ [])) ∙ sum_by-append (weigh m u e) (later c (list_run core copies number st list es).events) (later c (last ∷ [])) in
        let b = no_event (record last { cycle = c + last.cycle }) state word refl in
        omega (arith, a, b)

    one_more : (number : ℕ) (list : List PlainOp) (l : ListRun) (ls : List ListRun) → w (all_listed core number list (l ∷ ls)) ≡ w (list_events core number list l) + w (all_listed core number list ls)
    one_more number list l ls = sum_by-append (weigh m u e) (list_events core number list l) (all_listed core number list ls)

    turns_sum : (r : Placed) (scope : Scope) (t c : ℕ) (ts : Turns) (last : List Entry)
        → w (turns_alone core plan delays k n start state ops node after r t c ts last) ≡ w (all_listed core at_test ops (tests_in core plan delays k n start ops node after r scope t c ts last)) + w (all_listed core at_next after (nexts_in core plan delays k n start ops node after r scope t c ts))
    turns_sum r scope t c no_turn last = let a = one_more at_test ops (list_in_turn core plan delays k n start ops node after r scope t c last) [] in omega (arith, a)
    turns_sum r scope t c (more_turn es h ns rest) last =
        let d : ℕ = c + list_took core plan delays ops + body_took core plan delays k n start ops node after r t h in
        let z : ℕ = d + list_took core plan delays after in
        let tested : List Stamped = later c (list_run core r.copies (n + length start) (inside_at r.standing k (in_turn t) []) ops es).events in
        let kept : List Stamped = later d (kept_run core r.copies at_next (inside_at r.standing k (in_turn t) []) after ns state (last_word ns)).events in
        let others : List Stamped = turns_alone core plan delays k n start state ops node after r (suc t) z rest last in
        let a = sum_by-append (weigh m u e) tested (kept ++ others) in
        let b = sum_by-append (weigh m u e) kept others in
        let f = kept_sum d at_next r.copies (inside_at r.standing k (in_turn t) []) after ns state (last_word ns) in
        let g = turns_sum r scope (suc t) z rest last in
        let i = one_more at_test ops (list_in_turn core plan delays k n start ops node after r scope t c es) (tests_in core plan delays k n start ops node after r scope (suc t) z rest last) in
        let j = one_more at_next after (list_in_turn core plan delays k n start ops node after r scope t d ns) (nexts_in core plan delays k n start ops node after r scope (suc t) z rest) in
        added (w (tested ++ (kept ++ others))) (w tested) (w (kept ++ others)) (w kept) (w (later d (list_run core r.copies at_next (inside_at r.standing k (in_turn t) []) after ns).events)) (w others)
        (w (all_listed core at_test ops (tests_in core plan delays k n start ops node after r scope (suc t) z rest last))) (w (all_listed core at_next after (nexts_in core plan delays k n start ops node after r scope (suc t) z rest)))
        (w (all_listed core at_test ops (tests_in core plan delays k n start ops node after r scope t c (more_turn es h ns rest) last))) (w (all_listed core at_next after (nexts_in core plan delays k n start ops node after r scope t c (more_turn es h ns rest)))) a b f g i j
      where
        added : (whole tested more kept listed others tests nexts all_tests all_nexts : ℕ) → whole ≡ tested + more → more ≡ kept + others → kept ≡ listed → others ≡ tests + nexts → all_tests ≡ tested + tests → all_nexts ≡ listed + nexts → whole ≡ all_tests + all_nexts
        added whole tested more kept listed others tests nexts all_tests all_nexts a b f g i j = omega (arith, a, b, f, g, i, j)

    run_sum : (q : Scoped) (h : History) → AllDone in_lanes whole q.scope h → w (fsm_alone core plan delays k n start state ops node after q.run h)
        ≡ w (list_events core n start (start_list core plan delays k n start ops node after (record q { run = record q.run { history = h } })))
        + (w (all_listed core at_test ops (test_lists_in core plan delays k n start ops node after q h)) + w (all_listed core at_next after (next_lists_in core plan delays k n start ops node after q h)))
    run_sum q (fsm_ran first ts last) done =
        let r : Placed = q.run in
        let kept : List Stamped = later (r.cycle + 1) (kept_run core r.copies n (inside_at r.standing k before []) start first state (last_word first)).events in
        let others : ℕ → List Stamped = λ c. turns_alone core plan delays k n start state ops node after r 0 c ts last in
        let a = sum_by-append (weigh m u e) kept (others (r.cycle + (1 + list_took core plan delays start))) in
        let b = kept_sum (r.cycle + 1) n r.copies (inside_at r.standing k before []) start first state (last_word first) in
        let d = ap (λ c. w (later c (list_run core r.copies n (inside_at r.standing k before []) start first).events)) {x = r.cycle + 1} {y = suc r.cycle} (omega arith) in
        let f = ap (λ c. w (others c)) {x = r.cycle + (1 + list_took core plan delays start)} {y = suc r.cycle + list_took core plan delays start} (omega arith) in
        let g = turns_sum r q.scope 0 (suc r.cycle + list_took core plan delays start) ts last in
        a ∙ both (b ∙ d) (f ∙ g)
      where
        both : {x y a b : ℕ} → x ≡ a → y ≡ b → x + y ≡ a + b
        both p q = omega (arith, p, q)
    run_sum q h done = elim done [ ]

    all_sum : (qs : List Scoped) → AllAreDone whole qs → w (flat_map (λ r. fsm_alone core plan delays k n start state ops node after r r.history) (placed qs))
        ≡ w (all_listed core n start (map (start_list core plan delays k n start ops node after) qs))
        + (w (all_listed core at_test ops (test_lists core plan delays k n start ops node after qs)) + w (all_listed core at_next after (next_lists core plan delays k n start ops node after qs)))
    all_sum [] done = refl
    all_sum (q ∷ qs) done =
        let own : List Stamped = fsm_alone core plan delays k n start state ops node after q.run q.run.history in
        let more : List Stamped = flat_map (λ r. fsm_alone core plan delays k n start state ops node after r r.history) (placed qs) in
        let a = sum_by-append (weigh m u e) own more in
        let b = run_sum q q.run.history done.0 in
        let c = all_sum qs done.1 in
        let d = one_more n start (start_list core plan delays k n start ops node after q) (map (start_list core plan delays k n start ops node after) qs) in
        let f = joined at_test ops (test_lists_in core plan delays k n start ops node after q q.run.history) (test_lists core plan delays k n start ops node after qs) in
        let g = joined at_next after (next_lists_in core plan delays k n start ops node after q q.run.history) (next_lists core plan delays k n start ops node after qs) in
        omega (arith, a, b, c, d, f, g)
      where
        joined : (number : ℕ) (list : List PlainOp) (xs ys : List ListRun) → w (all_listed core number list (xs ++ ys)) ≡ w (all_listed core number list xs) + w (all_listed core number list ys)
        joined number list xs ys = ap w (flat_map-append (list_events core number list) xs ys) ∙ sum_by-append (weigh m u e) (all_listed core number list xs) (all_listed core number list ys)

  module _ (qs : List Scoped) (done : AllAreDone whole qs) (is : IsTimed whole) where
    abbrev pub all : List Stamped
    all = all_events core plan delays whole k n (placed qs)

    abbrev pub starts : List Stamped
    starts = all_listed core n start (map (start_list core plan delays k n start ops node after) qs)

    abbrev pub tests : List Stamped
    tests = all_listed core at_test ops (test_lists core plan delays k n start ops node after qs)

    abbrev pub nexts : List Stamped
    nexts = all_listed core at_next after (next_lists core plan delays k n start ops node after qs)

    abbrev pub bodies : List Stamped
    bodies = all_events core plan delays node (suc k) at_body (body_runs core plan delays start ops after node k n (placed qs))

    module _ (m u : ℕ) (e : Event) where
      abbrev f : Stamped → ℕ
      f = weigh m u e

      sums : sum_by f all ≡ (sum_by f starts + (sum_by f tests + sum_by f nexts)) + sum_by f bodies
      sums = laws.bodies_told f k n start state ops node after (placed qs) ∙ ap (λ x. x + sum_by f bodies) (all_sum m u e qs done)

      no_start : n + length start ≤ m → sum_by f starts ≡ 0
      no_start l = none_like m u e starts (λ x h. let r = listed_within core n start (map (start_list core plan delays k n start ops node after) qs) m u x h in let b = r.1 in absurd (omega (arith, b, l)))

      no_test_before : m < n + length start → sum_by f tests ≡ 0
      no_test_before l = none_like m u e tests (λ x h. let r = listed_within core at_test ops (test_lists core plan delays k n start ops node after qs) m u x h in let b = r.0 in absurd (omega (arith, b, l)))

      no_test_after : n + (length start + length ops) ≤ m → sum_by f tests ≡ 0
      no_test_after l = none_like m u e tests (λ x h. let r = listed_within core at_test ops (test_lists core plan delays k n start ops node after qs) m u x h in let b = r.1 in absurd (omega (arith, b, l)))

      no_next : m < n + (length start + (length ops + number_count node)) → sum_by f nexts ≡ 0
      no_next l = none_like m u e nexts (λ x h. let r = listed_within core at_next after (next_lists core plan delays k n start ops node after qs) m u x h in let b = r.0 in absurd (omega (arith, b, l)))

      no_body_before : m < n + (length start + length ops) → sum_by f bodies ≡ 0
      no_body_before l = none_like m u e bodies (λ x h. let r = numbers_within core plan delays node (laws.tells_all node) is (suc k) at_body (body_runs core plan delays start ops after node k n (placed qs)) m u x h in let b = r.0 in absurd (omega (arith, b, l)))

      no_body_after : n + (length start + (length ops + number_count node)) ≤ m → sum_by f bodies ≡ 0
      no_body_after l = none_like m u e bodies (λ x h. let r = numbers_within core plan delays node (laws.tells_all node) is (suc k) at_body (body_runs core plan delays start ops after node k n (placed qs)) m u x h in let b = r.1 in absurd (omega (arith, b, l)))

    pub starts_of : AreEventsOf all starts n (length start)
    starts_of = by_weights all starts n (length start) (λ m u e. let a = sums m u e in omega (arith, a))
        (λ m u e low high. let a = sums m u e in let b = no_test_before m u e high in let c = no_next m u e (omega (arith, high)) in let d = no_body_before m u e (omega (arith, high)) in omega (arith, a, b, c, d))

    pub tests_of : AreEventsOf all tests at_test (length ops)
    tests_of = by_weights all tests at_test (length ops) (λ m u e. let a = sums m u e in omega (arith, a))
        (λ m u e low high. let a = sums m u e in let b = no_start m u e low in let c = no_next m u e (omega (arith, high)) in let d = no_body_before m u e (omega (arith, high)) in omega (arith, a, b, c, d))

    pub nexts_of : AreEventsOf all nexts at_next (length after)
    nexts_of = by_weights all nexts at_next (length after) (λ m u e. let a = sums m u e in omega (arith, a))
        (λ m u e low high. let a = sums m u e in let b = no_start m u e (omega (arith, low)) in let c = no_test_after m u e (omega (arith, low)) in let d = no_body_after m u e low in omega (arith, a, b, c, d))

    pub bodies_of : AreEventsOf all bodies at_body (number_count node)
    bodies_of = by_weights all bodies at_body (number_count node) (λ m u e. let a = sums m u e in omega (arith, a))
        (λ m u e low high. let a = sums m u e in let b = no_start m u e (omega (arith, low)) in let c = no_test_after m u e low in let d = no_next m u e (omega (arith, high)) in omega (arith, a, b, c, d))
