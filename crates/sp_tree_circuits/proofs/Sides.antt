-- The circuit of a branch, where its sides go.
use Rattle.std.proofs.Common.{◌≡◌, ℕ, zero, suc, ◌+◌, ◌<◌, ◌≤◌, Bool, true, false, List, [], ◌∷◌, ◌++◌, map, flat_map, sum_by, length, refl, sym, ap, subst, ◌∙◌, arith}
use Rattle.std.specs.List.{Contains}
use Rattle.std.proofs.lemmas.List.Elements.{Contains-append_left}
use Rattle.sp_netlist.specs.declared.parts.Child.{Child}
use Rattle.sp_netlist.specs.Signals.{Signals}
use Rattle.sp_words.specs.declared.types.Ty.TheVariants.{Bit}
use Rattle.sp_core.specs.Around.{Around, Near}
use Rattle.sp_core.specs.Events.{Event, inside_at, in_turn}
use Rattle.sp_core.specs.History.{History, branch_ran}
use Rattle.sp_core.specs.Invariant.{IsRight}
use Rattle.sp_core.specs.Numbering.{node_count, number_count}
use Rattle.sp_core.specs.PlainCore.{PlainOp, PlainNode, branch, PlainCore}
use Rattle.sp_core.specs.Scope.{Scope, in_lanes}
use Rattle.sp_fitting.specs.Fitting.{HistoryFits}
use Rattle.sp_fitting.proofs.Rules.{here_right}
use Rattle.sp_part_runs.specs.ControlBranches.{test_run}
use Rattle.sp_part_runs.specs.ControlParts.{runs_of}
use Rattle.sp_plan.specs.PlainPlan.{PlainPlan}
use Rattle.sp_machine.specs.Stamps.{Stamped, later, list_run}
use Rattle.sp_machine.specs.Timeline.{timed}
use Rattle.sp_machine.specs.Transfers.{Delays}
use Rattle.sp_overlap.specs.Whole.{IsTimed}
use Rattle.sp_node_runs.specs.Runs.{Placed, AreWithin, over_at, list_took, side_in, side_runs}
use Rattle.sp_node_runs.specs.RunsTold.{all_events, branch_alone}
use Rattle.sp_node_runs.specs.ControlLaws.{Does, IsStarted}
use Rattle.sp_node_runs.specs.ControlRuns.{rans, branch_of}
use Rattle.sp_node_runs.specs.FitsLaws.{AllFit}
use Rattle.sp_node_runs.specs.BodiesGiven.{Nets, AreStanding}
use Rattle.sp_node_runs.specs.BodiesLists.{DidList, ListRun, list_ran, list_events, all_listed}
use Rattle.sp_node_runs.specs.BodiesTold.{AreAnsweredInTime}
use Rattle.sp_node_runs.proofs.BodiesListed.{none_there, mapped_from, joined_from}
use Rattle.sp_tree_runs.specs.BodiesDone.{AllDone}
use Rattle.sp_tree_runs.specs.BodiesScoped.{Scoped, placed, with_scope, AllAreDone, scoped_sides}
use Rattle.sp_tree_runs.specs.BodiesScopes.{tested_in, test_list}
use Rattle.sp_tree_circuits.specs.Circuits.{Circuit}
use Rattle.sp_tree_circuits.specs.Acts.{AreEventsOf, Acts}
use Rattle.sp_tree_circuits.proofs.Alike.{weigh, none_like, by_weights, of_part}
use Rattle.sp_tree_circuits.specs.Given.{Laws}
use Rattle.sp_tree_circuits.proofs.Inside.{inside, alone, scoped_from}
use Rattle.sp_tree_circuits.proofs.Listing.{listed_within, one_did, test_part, list_acts}
use Rattle.sp_tree_circuits.proofs.Numbers.{numbers_within}
use Rattle.sp_tree_circuits.proofs.Ready.{Ready, Goes, does_of}

pub done_of : (node : PlainNode) (qs : List Scoped) → AllAreDone node qs → (q : Scoped) → Contains qs q → AllDone in_lanes node q.scope q.run.history
done_of node [] h q c = absurd (none_there q c)
done_of node (x ∷ qs) h q (zero, l, e) = subst (λ (y : Scoped). AllDone in_lanes node y.scope y.run.history) e h.0
done_of node (x ∷ qs) h q (suc i, l, e) = done_of node qs h.1 q (i, omega (arith, l), e)

pub fit_of : (core : PlainCore) (plan : PlainPlan) (delays : Delays) (node : PlainNode) (qs : List Scoped) → AllFit core plan delays node (placed qs) → (q : Scoped) → Contains qs q → HistoryFits core node q.run.history
fit_of core plan delays node [] h q c = absurd (none_there q c)
fit_of core plan delays node (x ∷ qs) h q (zero, l, e) = subst (λ (y : Scoped). HistoryFits core node y.run.history) e h.0
fit_of core plan delays node (x ∷ qs) h q (suc i, l, e) = fit_of core plan delays node qs h.1 q (i, omega (arith, l), e)

module _ (core : PlainCore) (plan : PlainPlan) (delays : Delays) (laws : Laws core plan delays) (k n : ℕ) (ops : List PlainOp) (first second : PlainNode) where
  abbrev whole : PlainNode
  whole = branch ops first second

  abbrev side_node : Bool → PlainNode
  side_node true = first
  side_node false = second

  abbrev side_at : Bool → ℕ
  side_at true = suc k
  side_at false = suc k + node_count first

  abbrev side_number : Bool → ℕ
  side_number true = n + length ops
  side_number false = n + (length ops + number_count first)

  -- the events of its tests are those that it does by itself
  test_alone : (q : Scoped) (h : History) → AllDone in_lanes whole q.scope h → branch_alone core plan delays k n ops first second q.run h ≡ list_events core n ops (test_list k (record q { run = record q.run { history = h } }))
  test_alone q (branch_ran es true h) done = ap (λ c. later c (list_run core q.run.copies n (inside_at q.run.standing k (in_turn 0) []) ops es).events) {x = q.run.cycle + 1} {y = suc q.run.cycle} (omega arith)
  test_alone q (branch_ran es false h) done = ap (λ c. later c (list_run core q.run.copies n (inside_at q.run.standing k (in_turn 0) []) ops es).events) {x = q.run.cycle + 1} {y = suc q.run.cycle} (omega arith)
  test_alone q h done = elim done [ ]

  tests_alone : (qs : List Scoped) → AllAreDone whole qs → flat_map (λ r. branch_alone core plan delays k n ops first second r r.history) (placed qs) ≡ all_listed core n ops (map (test_list k) qs)
  tests_alone [] done = refl
  tests_alone (q ∷ qs) done =
      ap (λ xs. xs ++ flat_map (λ r. branch_alone core plan delays k n ops first second r r.history) (placed qs)) (test_alone q q.run.history done.0)
      ∙ ap (λ xs. list_events core n ops (test_list k q) ++ xs) (tests_alone qs done.1)

  module _ (qs : List Scoped) (done : AllAreDone whole qs) (is : IsTimed whole) where
    abbrev all : List Stamped
    all = all_events core plan delays whole k n (placed qs)

    abbrev listed : List Stamped
    listed = all_listed core n ops (map (test_list k) qs)

    abbrev in_side : Bool → List Stamped
    in_side side = all_events core plan delays (side_node side) (side_at side) (side_number side) (side_runs core plan delays ops k side (placed qs))

    sums : (f : Stamped → ℕ) → sum_by f all ≡ sum_by f listed + (sum_by f (in_side true) + sum_by f (in_side false))
    sums f = laws.sides_told f k n ops first second (placed qs) ∙ ap (λ (xs : List Stamped). sum_by f xs + (sum_by f (in_side true) + sum_by f (in_side false))) (tests_alone qs done)

    no_test : (m t : ℕ) (e : Event) → n + length ops ≤ m → sum_by (weigh m t e) listed ≡ 0
    no_test m t e l = none_like m t e listed (λ x h. let r = listed_within core n ops (map (test_list k) qs) m t x h in let b = r.1 in absurd (omega (arith, b, l)))

    no_first_before : (m t : ℕ) (e : Event) → m < n + length ops → sum_by (weigh m t e) (in_side true) ≡ 0
    no_first_before m t e l = none_like m t e (in_side true) (λ x h. let r = numbers_within core plan delays first (laws.tells_all first) is.0 (suc k) (n + length ops) (side_runs core plan delays ops k true (placed qs)) m t x h in let b = r.0 in absurd (omega (arith, b, l)))

    no_first_after : (m t : ℕ) (e : Event) → n + (length ops + number_count first) ≤ m → sum_by (weigh m t e) (in_side true) ≡ 0
    no_first_after m t e l = none_like m t e (in_side true) (λ x h. let r = numbers_within core plan delays first (laws.tells_all first) is.0 (suc k) (n + length ops) (side_runs core plan delays ops k true (placed qs)) m t x h in let b = r.1 in absurd (omega (arith, b, l)))

    no_second : (m t : ℕ) (e : Event) → m < n + (length ops + number_count first) → sum_by (weigh m t e) (in_side false) ≡ 0
    no_second m t e l =
        none_like m t e (in_side false) (λ x h. let r = numbers_within core plan delays second (laws.tells_all second) is.1 (suc k + node_count first) (n + (length ops + number_count first)) (side_runs core plan delays ops k false (placed qs)) m t x h in let b = r.0 in absurd (omega (arith, b, l)))

    tests_of : AreEventsOf all listed n (length ops)
    tests_of = by_weights all listed n (length ops) (λ m t e. let a = sums (weigh m t e) in omega (arith, a))
        (λ m t e low high. let a = sums (weigh m t e) in let b = no_first_before m t e high in let d = no_second m t e (omega (arith, high)) in omega (arith, a, b, d))

    side_of : (side : Bool) → AreEventsOf all (in_side side) (side_number side) (number_count (side_node side))
    side_of true = by_weights all (in_side true) (n + length ops) (number_count first) (λ m t e. let a = sums (weigh m t e) in omega (arith, a))
        (λ m t e low high. let a = sums (weigh m t e) in let b = no_test m t e low in let d = no_second m t e (omega (arith, high)) in omega (arith, a, b, d))
    side_of false = by_weights all (in_side false) (n + (length ops + number_count first)) (number_count second) (λ m t e. let a = sums (weigh m t e) in omega (arith, a))
        (λ m t e low high. let a = sums (weigh m t e) in let b = no_test m t e (omega (arith, low)) in let d = no_first_after m t e low in omega (arith, a, b, d))

  -- how long a branch goes on at least
  lasts_one : (r : Placed) (h : History) (scope : Scope) → AllDone in_lanes whole scope h → r.cycle + (2 + list_took core plan delays ops) ≤ over_at core plan delays whole k n (record r { history = h })
  unfolding timed
  lasts_one r (branch_ran es true h) scope done = omega arith
  lasts_one r (branch_ran es false h) scope done = omega arith
  lasts_one r h scope done = elim done [ ]

  -- the runs of a side lie within those of the whole, with the same counters around
  sides_inside : (side : Bool) (r : Placed) (b : Placed) → Contains (side_in core plan delays ops k side r r.history) b → (r.cycle ≤ b.cycle) × (over_at core plan delays (side_node side) (side_at side) (side_number side) b ≤ over_at core plan delays whole k n r)
  sides_inside true r b c =
      let turns = laws.sides_turn k n ops first second r.cycle (over_at core plan delays whole k n r) (r ∷ []) (alone core plan delays whole k n r) in
      inside core plan delays first (suc k) (n + length ops) r.cycle (over_at core plan delays whole k n r) (side_runs core plan delays ops k true (r ∷ [])) turns.0 b (Contains-append_left (side_in core plan delays ops k true r r.history) [] b c)
  sides_inside false r b c =
      let turns = laws.sides_turn k n ops first second r.cycle (over_at core plan delays whole k n r) (r ∷ []) (alone core plan delays whole k n r) in
      inside core plan delays second (suc k + node_count first) (n + (length ops + number_count first)) r.cycle (over_at core plan delays whole k n r) (side_runs core plan delays ops k false (r ∷ [])) turns.1 b (Contains-append_left (side_in core plan delays ops k false r r.history) [] b c)

  test_did : (around : Around) (before : List ℕ) (scope : Scope) (h : History) → IsRight core around before whole → AllDone in_lanes whole scope h → HistoryFits core whole h → DidList scope ops (tested_in h)
  test_did around before scope (branch_ran es true h) right done fits = one_did core around ops Bit scope es (here_right core around before whole right.0).0 done.0 fits.0
  test_did around before scope (branch_ran es false h) right done fits = one_did core around ops Bit scope es (here_right core around before whole right.0).0 done.0 fits.0
  test_did around before scope h right done fits = elim done [ ]

  pub same_rans : (qs : List Scoped) → map (list_ran core ops) (map (test_list k) qs) ≡ runs_of (map (λ r. test_run (branch_of core plan delays k n ops first second r)) (placed qs))
  same_rans [] = refl
  same_rans (q ∷ qs) = ap (λ rest. list_ran core ops (test_list k q) ∷ rest) (same_rans qs)

  module _ (s : Signals) (events : List Stamped) (near : List Near) (env : Nets) (qs : List Scoped) (is : IsTimed whole) (t : ℕ) (ready : Ready core plan delays s events whole near env k n qs t) where
    -- what is asked of a side
    pub side_ready : (side : Bool) → Ready core plan delays s events (side_node side) near env (side_at side) (side_number side) (scoped_sides core plan delays ops k side qs) t
    side_ready side = record {
      from = ready.from;
      until = ready.until;
      did = record {
        done = done side;
        fits = subst (AllFit core plan delays (side_node side)) (sym same) (fits side);
        in_turn = subst (AreWithin core plan delays (side_node side) (side_at side) (side_number side) ready.from ready.until) (sym same) (turns side);
      };
      told = subst (λ rs. AreEventsOf events (all_events core plan delays (side_node side) (side_at side) (side_number side) rs) (side_number side) (number_count (side_node side))) (sym same)
          (of_part events (all qs ready.did.done is) (in_side qs ready.did.done is side) n (number_count whole) (side_number side) (number_count (side_node side)) ready.told (side_of qs ready.did.done is side) (low side) (high side));
      stand = λ q u c a b l.
          let x = joined_from (λ (p : Scoped). with_scope p.scope (side_in core plan delays ops k side p.run p.run.history)) qs q c in
          let y = scoped_from x.0.scope (side_in core plan delays ops k side x.0.run x.0.run.history) q x.2 in
          let z = sides_inside side x.0.run q.run y.1 in
          let lo = z.0 in
          let hi = z.1 in
          subst (AreStanding s u near env) (sym y.0) (ready.stand x.0 u x.1 (omega (arith, lo, a)) (omega (arith, hi, b)) l);
    }
      where
        same : placed (scoped_sides core plan delays ops k side qs) ≡ side_runs core plan delays ops k side (placed qs)
        same = laws.parts.sides k ops side qs

        done : (side : Bool) → AllAreDone (side_node side) (scoped_sides core plan delays ops k side qs)
        done true = (laws.parts.sides_done k ops first second qs ready.did.done).0
        done false = (laws.parts.sides_done k ops first second qs ready.did.done).1

        fits : (side : Bool) → AllFit core plan delays (side_node side) (side_runs core plan delays ops k side (placed qs))
        fits true = (laws.fits.branches k ops first second (placed qs) ready.did.fits).1
        fits false = (laws.fits.branches k ops first second (placed qs) ready.did.fits).2

        turns : (side : Bool) → AreWithin core plan delays (side_node side) (side_at side) (side_number side) ready.from ready.until (side_runs core plan delays ops k side (placed qs))
        turns true = (laws.sides_turn k n ops first second ready.from ready.until (placed qs) ready.did.in_turn).0
        turns false = (laws.sides_turn k n ops first second ready.from ready.until (placed qs) ready.did.in_turn).1

        low : (side : Bool) → n ≤ side_number side
        low true = omega arith
        low false = omega arith

        high : (side : Bool) → side_number side + number_count (side_node side) ≤ n + number_count whole
        high true = omega arith
        high false = omega arith

    module _ (last : ℕ) (le : t ≤ last) (around : Around) (before : List ℕ) (right : IsRight core around before whole) (c : Child) (w : Circuit core plan s whole near env k c) (answered : AreAnsweredInTime s events last n ops w.tests.ps) where
      pub stands : (r : ListRun) → Contains (map (test_list k) qs) r → suc r.cycle ≤ t → AreStanding s (suc r.cycle) near env r.scope
      stands r there l =
          let x = mapped_from (test_list k) qs r there in
          let m = lasts_one x.0.run x.0.run.history x.0.scope (done_of whole qs ready.did.done x.0 x.1) in
          subst (λ (y : ListRun). suc y.cycle ≤ t → AreStanding s (suc y.cycle) near env y.scope) x.2 (λ l. ready.stand x.0 (suc (suc x.0.run.cycle)) x.1 (omega arith) (omega (arith, m)) l) l

      pub did : (r : ListRun) → Contains (map (test_list k) qs) r → DidList r.scope ops r.entries
      did r there =
          let x = mapped_from (test_list k) qs r there in
          subst (λ (y : ListRun). DidList y.scope ops y.entries) x.2
          (test_did around before x.0.scope x.0.run.history right (done_of whole qs ready.did.done x.0 x.1) (fit_of core plan delays whole qs ready.did.fits x.0 x.1))

      pub told_tests : AreEventsOf events (all_listed core n ops (map (test_list k) qs)) n (length ops)
      told_tests = of_part events (all qs ready.did.done is) (listed qs ready.did.done is) n (number_count whole) n (length ops) ready.told (tests_of qs ready.did.done is) (omega arith) (omega arith)

      pub branch_acts : Goes core plan delays s events first near env (suc k) (n + length ops) (scoped_sides core plan delays ops k true qs) w.chosen w.one t
          → Goes core plan delays s events second near env (suc k + node_count first) (n + (length ops + number_count first)) (scoped_sides core plan delays ops k false qs) w.left w.other t
          → IsStarted s c.start (rans core plan delays whole k n (placed qs)) t → Acts core plan delays s events t whole near env k n qs c w
      branch_acts one other started =
          let p = test_part core plan delays s events last t n le ops near env (map (test_list k) qs) w.test w.tested w.tests stands answered told_tests in
          let tells = laws.tests s t k n ops first second near env around before qs w.test w.tested right ready.did.done ready.did.fits p in
          let g = laws.branches s c.start w.test w.tested w.chosen w.left c.done t k n ops first second (placed qs) w.circuit (laws.fits.branches k ops first second (placed qs) ready.did.fits).0 tells.0 tells.1
          (subst (λ rs. Does s w.chosen (rans core plan delays first (suc k) (n + length ops) rs) t) (laws.parts.sides k ops true qs) (does_of core plan delays s events first near env (suc k) (n + length ops) (scoped_sides core plan delays ops k true qs) w.chosen w.one t one))
          (subst (λ rs. Does s w.left (rans core plan delays second (suc k + node_count first) (n + (length ops + number_count first)) rs) t) (laws.parts.sides k ops false qs)
          (does_of core plan delays s events second near env (suc k + node_count first) (n + (length ops + number_count first)) (scoped_sides core plan delays ops k false qs) w.left w.other t other)) t (omega arith) started in (
            record { starts = started; ends = g.ends },
            list_acts core plan delays s events last t n le ops near env (map (test_list k) qs) w.test w.tested w.tests stands answered told_tests laws.lists did (subst (λ xs. IsStarted s w.test.start xs t) (sym (same_rans qs)) g.tests),
            one t (omega arith) (subst (λ rs. IsStarted s w.chosen.start (rans core plan delays first (suc k) (n + length ops) rs) t) (sym (laws.parts.sides k ops true qs)) g.goes),
            other t (omega arith) (subst (λ rs. IsStarted s w.left.start (rans core plan delays second (suc k + node_count first) (n + (length ops + number_count first)) rs) t) (sym (laws.parts.sides k ops false qs)) g.turns),
          )
