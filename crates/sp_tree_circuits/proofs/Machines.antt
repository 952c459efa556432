-- The circuit of an FSM, where its body goes.
use Rattle.std.proofs.Common.{◌≡◌, ℕ, suc, ◌+◌, ◌≤◌, List, [], ◌∷◌, map, length, sym, subst, arith}
use Rattle.std.specs.List.{Contains}
use Rattle.std.proofs.lemmas.List.Elements.{Contains-append_left}
use Rattle.sp_netlist.specs.declared.parts.Child.{Child}
use Rattle.sp_netlist.specs.Signals.{Signals}
use Rattle.sp_core.specs.Around.{Around, Near}
use Rattle.sp_core.specs.Invariant.{IsRight}
use Rattle.sp_core.specs.Numbering.{number_count}
use Rattle.sp_core.specs.PlainCore.{PlainOp, PlainNode, fsm, PlainCore}
use Rattle.sp_plan.specs.PlainPlan.{PlainPlan}
use Rattle.sp_machine.specs.Stamps.{Stamped}
use Rattle.sp_machine.specs.Transfers.{Delays}
use Rattle.sp_overlap.specs.Whole.{IsTimed}
use Rattle.sp_node_runs.specs.Runs.{Placed, AreWithin, over_at, body_in, body_runs}
use Rattle.sp_node_runs.specs.RunsTold.{all_events}
use Rattle.sp_node_runs.specs.ControlLaws.{Does, IsStarted}
use Rattle.sp_node_runs.specs.ControlRuns.{rans}
use Rattle.sp_node_runs.specs.FitsLaws.{AllFit}
use Rattle.sp_node_runs.specs.BodiesGiven.{Nets, AreStanding}
use Rattle.sp_node_runs.specs.BodiesLists.{DidList, ListRun, all_listed}
use Rattle.sp_node_runs.specs.BodiesTold.{AreAnsweredInTime}
use Rattle.sp_node_runs.proofs.BodiesListed.{mapped_from, joined_from}
use Rattle.sp_tree_runs.specs.BodiesScoped.{Scoped, placed, with_scope, scoped_bodies}
use Rattle.sp_tree_runs.specs.BodiesTurns.{start_list, test_lists_in, next_lists_in, test_lists, next_lists}
use Rattle.sp_tree_circuits.specs.Circuits.{Circuit}
use Rattle.sp_tree_circuits.specs.Acts.{AreEventsOf, Acts}
use Rattle.sp_tree_circuits.proofs.Alike.{of_part}
use Rattle.sp_tree_circuits.specs.Given.{Laws}
use Rattle.sp_tree_circuits.proofs.Inside.{inside, alone, scoped_from}
use Rattle.sp_tree_circuits.proofs.Listing.{test_part, list_acts}
use Rattle.sp_tree_circuits.proofs.MachineEvents.{all, starts, tests as all_tests_events, nexts as all_nexts_events, bodies, starts_of, tests_of, nexts_of, bodies_of}
use Rattle.sp_tree_circuits.proofs.MachineLists.{start_did, tests_in_run, nexts_in_run, starts_same, all_tests, all_nexts, InRun, starts_in, tests_there, nexts_there}
use Rattle.sp_tree_circuits.proofs.Ready.{Ready, Goes, does_of}
use Rattle.sp_tree_circuits.proofs.Sides.{done_of, fit_of}

module _ (core : PlainCore) (plan : PlainPlan) (delays : Delays) (laws : Laws core plan delays) (k n : ℕ) (start : List PlainOp) (state : ℕ) (ops : List PlainOp) (node : PlainNode) (after : List PlainOp) where
  abbrev whole : PlainNode
  whole = fsm start state ops node after

  abbrev at_test : ℕ
  at_test = n + length start

  abbrev at_body : ℕ
  at_body = n + (length start + length ops)

  abbrev at_next : ℕ
  at_next = n + (length start + (length ops + number_count node))

  -- the runs of the body lie within those of the whole
  bodies_inside : (r : Placed) (b : Placed) → Contains (body_in core plan delays start ops after node k n r r.history) b → (r.cycle ≤ b.cycle) × (over_at core plan delays node (suc k) at_body b ≤ over_at core plan delays whole k n r)
  bodies_inside r b c =
      let turns = laws.bodies_turn k n start state ops node after r.cycle (over_at core plan delays whole k n r) (r ∷ []) (alone core plan delays whole k n r) in
      inside core plan delays node (suc k) at_body r.cycle (over_at core plan delays whole k n r) (body_runs core plan delays start ops after node k n (r ∷ [])) turns b (Contains-append_left (body_in core plan delays start ops after node k n r r.history) [] b c)

  module _ (s : Signals) (events : List Stamped) (near : List Near) (env : Nets) (qs : List Scoped) (is : IsTimed whole) (t : ℕ) (ready : Ready core plan delays s events whole near env k n qs t) where
    pub same_bodies : placed (scoped_bodies core plan delays start ops after node k n qs) ≡ body_runs core plan delays start ops after node k n (placed qs)
    same_bodies = laws.parts.bodies k n start ops node after qs

    -- what is asked of the body
    pub body_ready : Ready core plan delays s events node near env (suc k) at_body (scoped_bodies core plan delays start ops after node k n qs) t
    body_ready = record {
      from = ready.from;
      until = ready.until;
      did = record {
        done = laws.parts.bodies_done k n start state ops node after qs ready.did.done;
        fits = subst (AllFit core plan delays node) (sym same_bodies) (laws.fits.machines k n start state ops node after (placed qs) ready.did.fits).1;
        in_turn = subst (AreWithin core plan delays node (suc k) at_body ready.from ready.until) (sym same_bodies) (laws.bodies_turn k n start state ops node after ready.from ready.until (placed qs) ready.did.in_turn);
      };
      told = subst (λ rs. AreEventsOf events (all_events core plan delays node (suc k) at_body rs) at_body (number_count node)) (sym same_bodies)
          (of_part events (all core plan delays laws k n start state ops node after qs ready.did.done is) (bodies core plan delays laws k n start state ops node after qs ready.did.done is) n (number_count whole) at_body (number_count node) ready.told
          (bodies_of core plan delays laws k n start state ops node after qs ready.did.done is) (omega arith) (omega arith));
      stand = λ q u c a b l.
          let x = joined_from (λ (p : Scoped). with_scope p.scope (body_in core plan delays start ops after node k n p.run p.run.history)) qs q c in
          let y = scoped_from x.0.scope (body_in core plan delays start ops after node k n x.0.run x.0.run.history) q x.2 in
          let z = bodies_inside x.0.run q.run y.1 in
          let lo = z.0 in
          let hi = z.1 in
          subst (AreStanding s u near env) (sym y.0) (ready.stand x.0 u x.1 (omega (arith, lo, a)) (omega (arith, hi, b)) l);
    }

    list_stands : (l : ListRun) → InRun core plan delays k n start state ops node after qs l → suc l.cycle ≤ t → AreStanding s (suc l.cycle) near env l.scope
    list_stands l i le = let a = i.low in let b = i.high in subst (AreStanding s (suc l.cycle) near env) (sym i.same) (ready.stand i.run (suc l.cycle) i.there (omega (arith, a)) (omega (arith, b)) le)

    abbrev starts_lists : List ListRun
    starts_lists = map (start_list core plan delays k n start ops node after) qs

    abbrev tests_lists : List ListRun
    tests_lists = test_lists core plan delays k n start ops node after qs

    abbrev nexts_lists : List ListRun
    nexts_lists = next_lists core plan delays k n start ops node after qs

    pub starts_stand : (l : ListRun) → Contains starts_lists l → suc l.cycle ≤ t → AreStanding s (suc l.cycle) near env l.scope
    starts_stand l c le = list_stands l (starts_in core plan delays k n start state ops node after qs (done_of whole qs ready.did.done) l c) le

    pub tests_stand : (l : ListRun) → Contains tests_lists l → suc l.cycle ≤ t → AreStanding s (suc l.cycle) near env l.scope
    tests_stand l c le = list_stands l (tests_there core plan delays k n start state ops node after qs (done_of whole qs ready.did.done) l c) le

    pub nexts_stand : (l : ListRun) → Contains nexts_lists l → suc l.cycle ≤ t → AreStanding s (suc l.cycle) near env l.scope
    nexts_stand l c le = list_stands l (nexts_there core plan delays k n start state ops node after qs (done_of whole qs ready.did.done) l c) le

    pub told_starts : AreEventsOf events (all_listed core n start starts_lists) n (length start)
    told_starts =
        of_part events (all core plan delays laws k n start state ops node after qs ready.did.done is) (starts core plan delays laws k n start state ops node after qs ready.did.done is) n (number_count whole) n (length start) ready.told
        (starts_of core plan delays laws k n start state ops node after qs ready.did.done is) (omega arith) (omega arith)

    pub told_tests : AreEventsOf events (all_listed core at_test ops tests_lists) at_test (length ops)
    told_tests =
        of_part events (all core plan delays laws k n start state ops node after qs ready.did.done is) (all_tests_events core plan delays laws k n start state ops node after qs ready.did.done is) n (number_count whole) at_test (length ops) ready.told
        (tests_of core plan delays laws k n start state ops node after qs ready.did.done is) (omega arith) (omega arith)

    pub told_nexts : AreEventsOf events (all_listed core at_next after nexts_lists) at_next (length after)
    told_nexts =
        of_part events (all core plan delays laws k n start state ops node after qs ready.did.done is) (all_nexts_events core plan delays laws k n start state ops node after qs ready.did.done is) n (number_count whole) at_next (length after) ready.told
        (nexts_of core plan delays laws k n start state ops node after qs ready.did.done is) (omega arith) (omega arith)

    module _ (around : Around) (before : List ℕ) (right : IsRight core around before whole) where
      pub starts_did : (l : ListRun) → Contains starts_lists l → DidList l.scope start l.entries
      starts_did l c =
          let y = mapped_from (start_list core plan delays k n start ops node after) qs l c in
          subst (λ (l : ListRun). DidList l.scope start l.entries) y.2
          (start_did core plan delays k n start state ops node after around before right y.0.scope y.0.run.history (done_of whole qs ready.did.done y.0 y.1) (fit_of core plan delays whole qs ready.did.fits y.0 y.1))

      pub tests_did : (l : ListRun) → Contains tests_lists l → DidList l.scope ops l.entries
      tests_did l c =
          let y = joined_from (λ (q : Scoped). test_lists_in core plan delays k n start ops node after q q.run.history) qs l c in
          tests_in_run core plan delays k n start state ops node after around before right y.0 y.0.run.history (done_of whole qs ready.did.done y.0 y.1) (fit_of core plan delays whole qs ready.did.fits y.0 y.1) l y.2

      pub nexts_did : (l : ListRun) → Contains nexts_lists l → DidList l.scope after l.entries
      nexts_did l c =
          let y = joined_from (λ (q : Scoped). next_lists_in core plan delays k n start ops node after q q.run.history) qs l c in
          nexts_in_run core plan delays k n start state ops node after around before right y.0 y.0.run.history (done_of whole qs ready.did.done y.0 y.1) (fit_of core plan delays whole qs ready.did.fits y.0 y.1) l y.2

      module _ (last : ℕ) (le : t ≤ last) (c : Child) (w : Circuit core plan s whole near env k c) (answers_start : AreAnsweredInTime s events last n start w.begins.ps) (answers_test : AreAnsweredInTime s events last at_test ops w.tests.ps)
          (answers_next : AreAnsweredInTime s events last at_next after w.steps.ps) where
        pub machine_acts : Goes core plan delays s events node near env (suc k) at_body (scoped_bodies core plan delays start ops after node k n qs) w.body w.goes t
            → IsStarted s c.start (rans core plan delays whole k n (placed qs)) t → Acts core plan delays s events t whole near env k n qs c w
        machine_acts goes started =
            let tells = laws.turns s t k n start state ops node after near env around before qs w.first w.test w.next w.begun w.tested w.stepped right ready.did.done ready.did.fits
            (test_part core plan delays s events last t n le start near env starts_lists w.first w.begun w.begins starts_stand answers_start told_starts)
            (test_part core plan delays s events last t at_test le ops near env tests_lists w.test w.tested w.tests tests_stand answers_test told_tests)
            (test_part core plan delays s events last t at_next le after near env nexts_lists w.next w.stepped w.steps nexts_stand answers_next told_nexts) in
            let g = laws.machines s c.start w.first w.test w.tested w.body w.next c.done t k n start state ops node after (placed qs) w.circuit (laws.fits.machines k n start state ops node after (placed qs) ready.did.fits).0 tells.begins tells.does tells.tells
            (subst (λ rs. Does s w.body (rans core plan delays node (suc k) at_body rs) t) same_bodies (does_of core plan delays s events node near env (suc k) at_body (scoped_bodies core plan delays start ops after node k n qs) w.body w.goes t goes)) tells.steps t (omega arith) started in (
              record { starts = started; ends = g.ends },
              list_acts core plan delays s events last t n le start near env starts_lists w.first w.begun w.begins starts_stand answers_start told_starts laws.lists starts_did
                  (subst (λ xs. IsStarted s w.first.start xs t) (sym (starts_same core plan delays k n start state ops node after qs)) g.begins),
              list_acts core plan delays s events last t at_test le ops near env tests_lists w.test w.tested w.tests tests_stand answers_test told_tests laws.lists tests_did
                  (subst (λ xs. IsStarted s w.test.start xs t) (sym (all_tests core plan delays k n start state ops node after qs ready.did.done)) g.tested),
              list_acts core plan delays s events last t at_next le after near env nexts_lists w.next w.stepped w.steps nexts_stand answers_next told_nexts laws.lists nexts_did
                  (subst (λ xs. IsStarted s w.next.start xs t) (sym (all_nexts core plan delays k n start state ops node after qs ready.did.done)) g.steps),
              goes t (omega arith) (subst (λ rs. IsStarted s w.body.start (rans core plan delays node (suc k) at_body rs) t) (sym same_bodies) g.goes),
            )
