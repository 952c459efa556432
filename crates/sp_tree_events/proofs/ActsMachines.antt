-- Where an FSM keeps its state.
use Rattle.std.proofs.Common.{◌≡◌, ℕ, zero, suc, ◌+◌, ◌≤◌, ◌⊎◌, inl, inr, true, false, List, [], ◌∷◌, ◌++◌, map, length, flat_map, sum_by, Option, refl, sym, ap, subst, ◌∙◌, arith}
use Rattle.std.specs.List.{Contains}
use Rattle.std.proofs.lemmas.List.{map-append}
use Rattle.std.proofs.lemmas.List.Elements.{Contains-append_left, Contains-append_right, Contains-append_cases}
use Rattle.sp_netlist.specs.Signals.{Signals}
use Rattle.sp_gates.specs.Tested.{is_on}
use Rattle.sp_core.specs.Declarations.{is_among}
use Rattle.sp_core.specs.Events.{Standing, inside_at, before, in_turn, keeps}
use Rattle.sp_core.specs.History.{Entry, History, Turns, last_word, inner_ran, outer_ran, fsm_ran, branch_ran, moved, picked, no_turn, more_turn}
use Rattle.sp_core.specs.Invariant.{owned_in}
use Rattle.sp_core.specs.Latency.{latency_of_all}
use Rattle.sp_core.specs.Numbering.{number_count}
use Rattle.sp_core.specs.PlainCore.{PlainOp, PlainNode, fsm, PlainCore}
use Rattle.sp_core.specs.Scope.{Scope}
use Rattle.sp_plan.specs.PlainPlan.{PlainPlan}
use Rattle.sp_machine.specs.Laws.{TellsAll}
use Rattle.sp_machine.specs.Stamps.{Stamped, Copies, stamped, moved as moved_on, later, list_run, kept_run}
use Rattle.sp_machine.specs.Transfers.{Delays}
use Rattle.sp_overlap.specs.Whole.{IsTimed}
use Rattle.sp_mem.specs.Copies.{copy_at}
use Rattle.sp_part_runs.specs.ControlParts.{Ran}
use Rattle.sp_node_runs.specs.Runs.{Placed, over_at, list_took, turn_of, body_runs}
use Rattle.sp_node_runs.specs.RunsTold.{all_events, turns_alone, fsm_alone, BodiesAreTold}
use Rattle.sp_node_runs.specs.ControlRuns.{IsMachine, AreMachines}
use Rattle.sp_node_runs.proofs.ControlBeatRuns.{there, mapped_from}
use Rattle.sp_node_runs.specs.BodiesLists.{ListRun, list_ran}
use Rattle.sp_tree_runs.specs.BodiesScoped.{Scoped, placed}
use Rattle.sp_tree_runs.specs.BodiesTurns.{started_in, start_list, body_took, nexts_in, next_lists_in, next_lists}
use Rattle.sp_tree_events.specs.OwnersOwning.{kept, Shows, RunsOwn}
use Rattle.sp_tree_events.proofs.OwnersParting.{list_owned, runs_owned}
use Rattle.sp_tree_events.proofs.OwnersWeighing.{weight, some_weigh, weigh_some, none_weigh}
use Rattle.sp_tree_events.specs.ActsKeeping.{GivesState, Keeps, MachinesKeep}
use Rattle.sp_tree_events.proofs.ActsLoops.{joined_from, joined_to, mapped_to}

module _ (core : PlainCore) (state : ℕ) where
  -- a list whose word is kept, from a cycle on
  module _ (cycle : ℕ) (copies : Copies) (n : ℕ) (st : Standing) (ops : List PlainOp) (es : List Entry) (word : ℕ) where
    abbrev kept_events : List Stamped
    kept_events = later cycle (kept_run core copies n st ops es state word).events

    abbrev row : List Stamped
    row = (list_run core copies n st ops es).events

    abbrev end_row : List Stamped
    end_row = stamped copies (1 + latency_of_all core ops) (keeps state word ∷ [])

    abbrev end_cycle : ℕ
    end_cycle = cycle + (1 + latency_of_all core ops)

    kept_shows : Shows kept_events end_cycle (copies state) (kept state word)
    kept_shows = subst (λ xs. Shows xs end_cycle (copies state) (kept state word)) (sym (map-append (moved_on cycle) row end_row)) (Contains-append_right (later cycle row) (later cycle end_row) _ (0, omega arith, refl))

    kept_is : (t c w : ℕ) → Shows kept_events t c (kept state w) → (t ≡ end_cycle) × (c ≡ copies state) × (w ≡ word)
    kept_is t c w h = by (Contains-append_cases (later cycle row) (later cycle end_row) _ (subst (λ xs. Shows xs t c (kept state w)) (map-append (moved_on cycle) row end_row) h))
      where
        word_same : (a b : ℕ) → keeps state a ≡ keeps state b → b ≡ a
        word_same a b q = cc (q)

        by : Shows (later cycle row) t c (kept state w) ⊎ Shows (later cycle end_row) t c (kept state w) → (t ≡ end_cycle) × (c ≡ copies state) × (w ≡ word)
        by (inl d) = absurd (let some = some_weigh t c (kept state w) _ d in let none = none_weigh t c (kept state w) [] refl (later cycle row) (list_owned core [] cycle copies n st ops es) in omega (arith, some, none))
        by (inr (zero, l, q)) = (sym (ap (λ (x : Stamped). x.cycle) q), sym (ap (λ (x : Stamped). x.copy) q), word_same word w (ap (λ (x : Stamped). x.moment) q))
        by (inr (suc i, l, q)) = absurd (omega (arith, l))

  no_deed : (cycle : ℕ) (copies : Copies) (n : ℕ) (st : Standing) (ops : List PlainOp) (es : List Entry) (t c w : ℕ) → Shows (later cycle (list_run core copies n st ops es).events) t c (kept state w) → ⊥
  no_deed cycle copies n st ops es t c w d = absurd (let some = some_weigh t c (kept state w) _ d in let none = none_weigh t c (kept state w) [] refl (later cycle (list_run core copies n st ops es).events) (list_owned core [] cycle copies n st ops es) in omega (arith, some, none))

  -- where a list is over, with what it keeps
  pub record IsEnd (ops : List PlainOp) (lists : List ListRun) (t c w : ℕ) : Type 0 where
    pub run : ListRun
    pub there : Contains lists run
    pub cycle : suc t ≡ run.cycle + (list_ran core ops run).took
    pub copy : c ≡ run.copies state
    pub word : w ≡ last_word run.entries

  module _ (plan : PlainPlan) (delays : Delays) (k n : ℕ) (start : List PlainOp) (test : List PlainOp) (body : PlainNode) (next : List PlainOp) where
    abbrev after : ℕ
    after = n + (length start + (length test + number_count body))

    abbrev over : Placed → (turn cycle : ℕ) → History → ℕ
    over r u at h = over_at core plan delays body (suc k) (n + (length start + length test)) (turn_of core plan delays start test next body k n r u at h)

    abbrev alone_from : Placed → (turn cycle : ℕ) → Turns → List Entry → List Stamped
    alone_from r u at ts last = turns_alone core plan delays k n start state test body next r u at ts last

    abbrev nexts : Placed → Scope → (turn cycle : ℕ) → Turns → List ListRun
    nexts r scope u p ts = nexts_in core plan delays k n start test body next r scope u p ts

    abbrev test_row : Placed → (turn cycle : ℕ) → List Entry → List Stamped
    test_row r u at es = later at (list_run core r.copies (n + length start) (inside_at r.standing k (in_turn u) []) test es).events

    abbrev next_row : Placed → (turn cycle : ℕ) → List Entry → List Stamped
    next_row r u at es = later at (kept_run core r.copies after (inside_at r.standing k (in_turn u) []) next es state (last_word es)).events

    turns_are : (r : Placed) (scope : Scope) (u at p : ℕ) (ts : Turns) (last : List Entry) → at ≡ p → (t c w : ℕ) → Shows (alone_from r u at ts last) t c (kept state w) → IsEnd next (nexts r scope u p ts) t c w
    turns_are r scope u at p no_turn last same t c w h = absurd (no_deed at r.copies (n + length start) (inside_at r.standing k (in_turn u) []) test last t c w h)
    turns_are r scope u at p (more_turn es h ns rest) last same t c w shows =
        by (Contains-append_cases (test_row r u at es) (next_row r u (over r u at h) ns ++ alone_from r (suc u) (over r u at h + list_took core plan delays next) rest last) _ shows)
        (turns_are r scope (suc u) (over r u at h + list_took core plan delays next) (p + list_took core plan delays test + body_took core plan delays k n start test body next r u h + list_took core plan delays next) rest last (ap (λ v. v + list_took core plan delays test + body_took core plan delays k n start test body next r u h + list_took core plan delays next) same) t c w)
      where
        tail : List ListRun
        tail = nexts r scope (suc u) (p + list_took core plan delays test + body_took core plan delays k n start test body next r u h + list_took core plan delays next) rest

        moved_same : over r u at h ≡ p + list_took core plan delays test + body_took core plan delays k n start test body next r u h
        moved_same = ap (λ v. v + list_took core plan delays test + body_took core plan delays k n start test body next r u h) same

        two : Shows (next_row r u (over r u at h) ns) t c (kept state w) ⊎ Shows (alone_from r (suc u) (over r u at h + list_took core plan delays next) rest last) t c (kept state w)
            → (Shows (alone_from r (suc u) (over r u at h + list_took core plan delays next) rest last) t c (kept state w) → IsEnd next (nexts r scope (suc u) (p + list_took core plan delays test + body_took core plan delays k n start test body next r u h + list_took core plan delays next) rest) t c w)
            → IsEnd next (nexts r scope u p (more_turn es h ns rest)) t c w
        two (inl d) more =
            let z = kept_is (over r u at h) r.copies after (inside_at r.standing k (in_turn u) []) next ns (last_word ns) t c w d in
            let e = z.0 in
            let m = moved_same in
            record { run = record { cycle = p + list_took core plan delays test + body_took core plan delays k n start test body next r u h; standing = inside_at r.standing k (in_turn u) []; copies = r.copies; scope = scope; entries = ns }; there = (0, omega arith, refl); cycle = omega (arith, e, m); copy = z.1; word = z.2 }
        two (inr d) more = let z = more d in record { run = z.run; there = there _ z.run _ z.there; cycle = z.cycle; copy = z.copy; word = z.word }

        by : Shows (test_row r u at es) t c (kept state w) ⊎ Shows (next_row r u (over r u at h) ns ++ alone_from r (suc u) (over r u at h + list_took core plan delays next) rest last) t c (kept state w)
            → (Shows (alone_from r (suc u) (over r u at h + list_took core plan delays next) rest last) t c (kept state w) → IsEnd next (nexts r scope (suc u) (p + list_took core plan delays test + body_took core plan delays k n start test body next r u h + list_took core plan delays next) rest) t c w)
            → IsEnd next (nexts r scope u p (more_turn es h ns rest)) t c w
        by (inl d) more = absurd (no_deed at r.copies (n + length start) (inside_at r.standing k (in_turn u) []) test es t c w d)
        by (inr d) more = two (Contains-append_cases (next_row r u (over r u at h) ns) (alone_from r (suc u) (over r u at h + list_took core plan delays next) rest last) _ d) more

    turns_show : (r : Placed) (scope : Scope) (u at p : ℕ) (ts : Turns) (last : List Entry) → at ≡ p → (q : ListRun) (t : ℕ) → Contains (nexts r scope u p ts) q → suc t ≡ q.cycle + (list_ran core next q).took → Shows (alone_from r u at ts last) t (q.copies state) (kept state (last_word q.entries))
    turns_show r scope u at p no_turn last same q t (i, l, e) ends = absurd (omega (arith, l))
    turns_show r scope u at p (more_turn es h ns rest) last same q t (zero, l, e) ends =
        let c : ℕ = over r u at h in
        let cycle : p + list_took core plan delays test + body_took core plan delays k n start test body next r u h ≡ q.cycle = ap (λ (x : ListRun). x.cycle) e in
        let m : over r u at h ≡ p + list_took core plan delays test + body_took core plan delays k n start test body next r u h = ap (λ v. v + list_took core plan delays test + body_took core plan delays k n start test body next r u h) same in
        let at_end : over r u at h + (1 + latency_of_all core next) ≡ t = omega (arith, cycle, m, ends) in
        Contains-append_right (test_row r u at es) (next_row r u (over r u at h) ns ++ alone_from r (suc u) (over r u at h + list_took core plan delays next) rest last) _
        (Contains-append_left (next_row r u (over r u at h) ns) (alone_from r (suc u) (over r u at h + list_took core plan delays next) rest last) _
        (subst (λ (x : ListRun). Shows (next_row r u (over r u at h) ns) t (x.copies state) (kept state (last_word x.entries))) e
        (subst (λ v. Shows (next_row r u (over r u at h) ns) v (r.copies state) (kept state (last_word ns))) at_end (kept_shows (over r u at h) r.copies after (inside_at r.standing k (in_turn u) []) next ns (last_word ns)))))
    turns_show r scope u at p (more_turn es h ns rest) last same q t (suc i, l, e) ends =
        Contains-append_right (test_row r u at es) (next_row r u (over r u at h) ns ++ alone_from r (suc u) (over r u at h + list_took core plan delays next) rest last) _
        (Contains-append_right (next_row r u (over r u at h) ns) (alone_from r (suc u) (over r u at h + list_took core plan delays next) rest last) _
        (turns_show r scope (suc u) (over r u at h + list_took core plan delays next) (p + list_took core plan delays test + body_took core plan delays k n start test body next r u h + list_took core plan delays next) rest last (ap (λ v. v + list_took core plan delays test + body_took core plan delays k n start test body next r u h + list_took core plan delays next) same) q t (i, omega (arith, l), e) ends))

    abbrev alone : Placed → History → List Stamped
    alone r h = fsm_alone core plan delays k n start state test body next r h

    abbrev begin : Placed → List Entry → List Stamped
    begin r es = later (r.cycle + 1) (kept_run core r.copies n (inside_at r.standing k before []) start es state (last_word es)).events

    -- what an FSM keeps in a run
    alone_are : (q : Scoped) (h : History) → q.run.history ≡ h → IsMachine core plan delays h → (t c w : ℕ) → Shows (alone q.run h) t c (kept state w) → IsEnd start (start_list core plan delays k n start test body next q ∷ []) t c w ⊎ IsEnd next (next_lists_in core plan delays k n start test body next q h) t c w
    alone_are q (fsm_ran first ts last) is machine t c w h = by (Contains-append_cases (begin q.run first) (alone_from q.run 0 (q.run.cycle + (1 + list_took core plan delays start)) ts last) _ h)
      where
        by : Shows (begin q.run first) t c (kept state w) ⊎ Shows (alone_from q.run 0 (q.run.cycle + (1 + list_took core plan delays start)) ts last) t c (kept state w)
            → IsEnd start (start_list core plan delays k n start test body next q ∷ []) t c w ⊎ IsEnd next (next_lists_in core plan delays k n start test body next q (fsm_ran first ts last)) t c w
        by (inl d) =
            let z = kept_is (q.run.cycle + 1) q.run.copies n (inside_at q.run.standing k before []) start first (last_word first) t c w d in
            let e = z.0 in
            inl (record { run = start_list core plan delays k n start test body next q; there = (0, omega arith, refl); cycle = omega (arith, e); copy = z.1; word = z.2 ∙ sym (ap (λ y. last_word (started_in core plan delays k n start test body next y)) is) })
        by (inr d) = inr (turns_are q.run q.scope 0 (q.run.cycle + (1 + list_took core plan delays start)) (suc q.run.cycle + list_took core plan delays start) ts last (omega arith) t c w d)
    alone_are q (inner_ran bs counts groups) is machine t c w h = elim machine [ ]
    alone_are q (outer_ran bs counts groups) is machine t c w h = elim machine [ ]
    alone_are q (branch_ran es side hs) is machine t c w h = elim machine [ ]
    alone_are q (moved taken words) is machine t c w h = elim machine [ ]
    alone_are q (picked es words) is machine t c w h = elim machine [ ]

    start_shows : (q : Scoped) (h : History) → q.run.history ≡ h → IsMachine core plan delays h → (t : ℕ) → suc t ≡ suc q.run.cycle + (2 + latency_of_all core start) → Shows (alone q.run h) t (q.run.copies state) (kept state (last_word (started_in core plan delays k n start test body next h)))
    start_shows q (fsm_ran first ts last) is machine t ends =
        let at_end : q.run.cycle + 1 + (1 + latency_of_all core start) ≡ t = omega (arith, ends) in
        Contains-append_left (begin q.run first) (alone_from q.run 0 (q.run.cycle + (1 + list_took core plan delays start)) ts last) _
        (subst (λ v. Shows (begin q.run first) v (q.run.copies state) (kept state (last_word first))) at_end (kept_shows (q.run.cycle + 1) q.run.copies n (inside_at q.run.standing k before []) start first (last_word first)))
    start_shows q (inner_ran bs counts groups) is machine t ends = elim machine [ ]
    start_shows q (outer_ran bs counts groups) is machine t ends = elim machine [ ]
    start_shows q (branch_ran es side hs) is machine t ends = elim machine [ ]
    start_shows q (moved taken words) is machine t ends = elim machine [ ]
    start_shows q (picked es words) is machine t ends = elim machine [ ]

    next_shows : (q : Scoped) (h : History) → (l : ListRun) (t : ℕ) → Contains (next_lists_in core plan delays k n start test body next q h) l → suc t ≡ l.cycle + (list_ran core next l).took → Shows (alone q.run h) t (l.copies state) (kept state (last_word l.entries))
    next_shows q (fsm_ran first ts last) l t c ends =
        Contains-append_right (begin q.run first) (alone_from q.run 0 (q.run.cycle + (1 + list_took core plan delays start)) ts last) _
        (turns_show q.run q.scope 0 (q.run.cycle + (1 + list_took core plan delays start)) (suc q.run.cycle + list_took core plan delays start) ts last (omega arith) l t c ends)
    next_shows q (inner_ran bs counts groups) l t (i, m, e) ends = absurd (omega (arith, m))
    next_shows q (outer_ran bs counts groups) l t (i, m, e) ends = absurd (omega (arith, m))
    next_shows q (branch_ran es side hs) l t (i, m, e) ends = absurd (omega (arith, m))
    next_shows q (moved taken words) l t (i, m, e) ends = absurd (omega (arith, m))
    next_shows q (picked es words) l t (i, m, e) ends = absurd (omega (arith, m))

machine_at : (core : PlainCore) (plan : PlainPlan) (delays : Delays) (rs : List Placed) → AreMachines core plan delays rs → (r : Placed) → Contains rs r → IsMachine core plan delays r.history
machine_at core plan delays [] is r (i, l, e) = absurd (omega (arith, l))
machine_at core plan delays (q ∷ rs) is r (zero, l, e) = subst (λ (x : Placed). IsMachine core plan delays x.history) e is.0
machine_at core plan delays (q ∷ rs) is r (suc i, l, e) = machine_at core plan delays rs is.1 r (i, omega (arith, l), e)

module _ (core : PlainCore) (plan : PlainPlan) (delays : Delays) (tells : (node : PlainNode) → TellsAll core plan delays node) (own_runs : (node : PlainNode) → RunsOwn core node) (told_bodies : BodiesAreTold core plan delays)
    (s : Signals) (last k n : ℕ) (start : List PlainOp) (state : ℕ) (test : List PlainOp) (body : PlainNode) (next : List PlainOp) (qs : List Scoped) (one word : ℕ) (copy : Option ℕ) (other next_word : ℕ) (next_copy : Option ℕ)
    (timed : IsTimed body) (apart : is_among state (owned_in body) ≡ false) (machines : AreMachines core plan delays (placed qs))
    (first : GivesState core s last state start (map (start_list core plan delays k n start test body next) qs) one word copy)
    (later_one : GivesState core s last state next (next_lists core plan delays k n start test body next qs) other next_word next_copy) where
  abbrev whole : List Stamped
  whole = all_events core plan delays (fsm start state test body next) k n (placed qs)

  abbrev by_itself : Placed → List Stamped
  by_itself r = fsm_alone core plan delays k n start state test body next r r.history

  same_weight : (t c w : ℕ) → sum_by (weight t c (kept state w)) whole ≡ sum_by (weight t c (kept state w)) (flat_map by_itself (placed qs))
  same_weight t c w =
      let all = told_bodies (weight t c (kept state w)) k n start state test body next (placed qs) in
      let none = none_weigh t c (kept state w) (owned_in body) apart _ (runs_owned core plan delays tells own_runs body (suc k) (n + (length start + length test)) timed (body_runs core plan delays start test next body k n (placed qs))) in
      omega (arith, all, none)

  whole_shows : (t c w : ℕ) → Shows (flat_map by_itself (placed qs)) t c (kept state w) → Shows whole t c (kept state w)
  whole_shows t c w h = let x = some_weigh t c (kept state w) _ h in let q = same_weight t c w in weigh_some t c (kept state w) _ (omega (arith, x, q))

  run_of : (q : Scoped) → Contains qs q → Contains (placed qs) q.run
  run_of q c = mapped_to (λ (q : Scoped). q.run) qs q c

  made : (t c w : ℕ) → t ≤ last → Shows whole t c (kept state w) → ((is_on s one t ≡ true) × (copy_at s t copy ≡ c) × (s.net t word ≡ w)) ⊎ ((is_on s other t ≡ true) × (copy_at s t next_copy ≡ c) × (s.net t next_word ≡ w))
  made t c w late h =
      let x = some_weigh t c (kept state w) _ h in
      let e = same_weight t c w in
      let r = joined_from by_itself (placed qs) _ (weigh_some t c (kept state w) _ (omega (arith, x, e))) in
      let q = mapped_from (λ (q : Scoped). q.run) qs r.0 r.1 in
      let shown : Shows (by_itself q.0.run) t c (kept state w) = subst (λ y. Shows (by_itself y) t c (kept state w)) (sym q.2) r.2 in
      by q.0 q.1 (alone_are core state plan delays k n start test body next q.0 q.0.run.history refl (machine_at core plan delays (placed qs) machines q.0.run (run_of q.0 q.1)) t c w shown)
    where
      by : (q : Scoped) → Contains qs q → IsEnd core state start (start_list core plan delays k n start test body next q ∷ []) t c w ⊎ IsEnd core state next (next_lists_in core plan delays k n start test body next q q.run.history) t c w
          → ((is_on s one t ≡ true) × (copy_at s t copy ≡ c) × (s.net t word ≡ w)) ⊎ ((is_on s other t ≡ true) × (copy_at s t next_copy ≡ c) × (s.net t next_word ≡ w))
      by q at (inl z) =
          let there : Contains (map (start_list core plan delays k n start test body next) qs) z.run = is_first z.there (mapped_to (start_list core plan delays k n start test body next) qs q at) in
          let gives = first.gives z.run t there z.cycle late in
          inl (first.ends.on t late (list_ran core start z.run, mapped_to (list_ran core start) _ z.run there, z.cycle), gives.1 ∙ sym z.copy, gives.0 ∙ sym z.word)
        where
          is_first : Contains (start_list core plan delays k n start test body next q ∷ []) z.run → Contains (map (start_list core plan delays k n start test body next) qs) (start_list core plan delays k n start test body next q) → Contains (map (start_list core plan delays k n start test body next) qs) z.run
          is_first (zero, l, e) d = subst (Contains (map (start_list core plan delays k n start test body next) qs)) e d
          is_first (suc i, l, e) d = absurd (omega (arith, l))
      by q at (inr z) =
          let there : Contains (next_lists core plan delays k n start test body next qs) z.run = joined_to (λ (q : Scoped). next_lists_in core plan delays k n start test body next q q.run.history) qs q z.run at z.there in
          let gives = later_one.gives z.run t there z.cycle late in
          inr (later_one.ends.on t late (list_ran core next z.run, mapped_to (list_ran core next) _ z.run there, z.cycle), gives.1 ∙ sym z.copy, gives.0 ∙ sym z.word)

  starts : (t : ℕ) → t ≤ last → is_on s one t ≡ true → Shows whole t (copy_at s t copy) (kept state (s.net t word))
  starts t late h =
      let a = first.ends.only t late h in
      let l = mapped_from (list_ran core start) (map (start_list core plan delays k n start test body next) qs) a.0 a.1 in
      let q = mapped_from (start_list core plan delays k n start test body next) qs l.0 l.1 in
      let ends : suc t ≡ l.0.cycle + (list_ran core start l.0).took = subst (λ (x : Ran). suc t ≡ x.cycle + x.took) (sym l.2) a.2 in
      let gives = first.gives l.0 t l.1 ends late in
      let cycle : suc q.0.run.cycle ≡ l.0.cycle = ap (λ (x : ListRun). x.cycle) q.2 in
      let shown = start_shows core state plan delays k n start test body next q.0 q.0.run.history refl (machine_at core plan delays (placed qs) machines q.0.run (run_of q.0 q.1)) t (omega (arith, ends, cycle)) in
      let here_shown = whole_shows t _ _ (joined_to by_itself (placed qs) q.0.run _ (run_of q.0 q.1) shown) in
      subst (λ c. Shows whole t c (kept state (s.net t word))) (sym (gives.1 ∙ ap (λ (x : ListRun). x.copies state) (sym q.2)))
      (subst (λ w. Shows whole t (q.0.run.copies state) (kept state w)) (sym (gives.0 ∙ ap (λ (x : ListRun). last_word x.entries) (sym q.2))) here_shown)

  nexts_go : (t : ℕ) → t ≤ last → is_on s other t ≡ true → Shows whole t (copy_at s t next_copy) (kept state (s.net t next_word))
  nexts_go t late h =
      let a = later_one.ends.only t late h in
      let l = mapped_from (list_ran core next) (next_lists core plan delays k n start test body next qs) a.0 a.1 in
      let q = joined_from (λ (q : Scoped). next_lists_in core plan delays k n start test body next q q.run.history) qs l.0 l.1 in
      let ends : suc t ≡ l.0.cycle + (list_ran core next l.0).took = subst (λ (x : Ran). suc t ≡ x.cycle + x.took) (sym l.2) a.2 in
      let gives = later_one.gives l.0 t l.1 ends late in
      let shown = next_shows core state plan delays k n start test body next q.0 q.0.run.history l.0 t q.2 ends in
      let here_shown = whole_shows t _ _ (joined_to by_itself (placed qs) q.0.run _ (run_of q.0 q.1) shown) in
      subst (λ c. Shows whole t c (kept state (s.net t next_word))) (sym gives.1) (subst (λ w. Shows whole t (l.0.copies state) (kept state w)) (sym gives.0) here_shown)

  keeps_so : Keeps s whole state one word copy other next_word next_copy last
  keeps_so = record { made = made; first = starts; next = nexts_go }

pub machines_keep : (core : PlainCore) (plan : PlainPlan) (delays : Delays) → ((node : PlainNode) → TellsAll core plan delays node) → ((node : PlainNode) → RunsOwn core node) → BodiesAreTold core plan delays → MachinesKeep core plan delays
machines_keep core plan delays tells own_runs told_bodies s last k n start state test body next qs one word copy other next_word next_copy timed apart machines first later_one =
    keeps_so core plan delays tells own_runs told_bodies s last k n start state test body next qs one word copy other next_word next_copy timed apart machines first later_one
