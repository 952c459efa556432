-- Circuits of trees are built as the laws of trees ask for it.
use Rattle.std.proofs.Common.{◌≡◌, ℕ, suc, ◌+◌, ◌≤◌, true, false, List, [], ◌∷◌, map, length, Option, sym, subst, arith}
use Rattle.sp_netlist.specs.declared.parts.Child.{Child}
use Rattle.sp_netlist.specs.Signals.{Signals}
use Rattle.sp_core.specs.Around.{Around, Near}
use Rattle.sp_core.specs.Invariant.{IsRight, AreRight}
use Rattle.sp_core.specs.Numbering.{counters_size, node_count, number_count}
use Rattle.sp_core.specs.PlainCore.{PlainOp, PlainCounter, PlainNode, PlainStages, inner, outer, fsm, branch, load, store, sparse, no_stage, more_stage, PlainCore}
use Rattle.sp_plan.specs.PlainPlan.{PlainPlan}
use Rattle.sp_machine.specs.Stamps.{Stamped}
use Rattle.sp_machine.specs.Transfers.{Delays}
use Rattle.sp_overlap.specs.Whole.{IsTimed, AreTimed}
use Rattle.sp_node_runs.specs.Runs.{Placed, stage_at, node_at, number_at, stage_runs}
use Rattle.sp_node_runs.specs.RunsTold.{all_events}
use Rattle.sp_node_runs.specs.ControlLaws.{IsStarted}
use Rattle.sp_node_runs.specs.ControlRuns.{rans}
use Rattle.sp_node_runs.specs.BodiesGiven.{Nets}
use Rattle.sp_node_runs.specs.BodiesLaws.{own_near}
use Rattle.sp_node_runs.specs.BodiesTold.{AreAnsweredInTime}
use Rattle.sp_tree_runs.specs.BodiesBuilt.{Issued, counted, single, InnerPart, Built, StagesBuilt}
use Rattle.sp_tree_runs.specs.BodiesScoped.{Scoped, placed, scoped_sides, scoped_bodies, scoped_stages}
use Rattle.sp_tree_runs.specs.BodiesScopes.{scopes_of, test_list}
use Rattle.sp_tree_runs.specs.BodiesTurns.{start_list, test_lists, next_lists}
use Rattle.sp_tree_circuits.specs.Answers.{Answered, EachInLists, TransfersMove, EachInStages, MovesInTime}
use Rattle.sp_tree_circuits.specs.Acts.{Acts}
use Rattle.sp_tree_circuits.specs.Circuits.{Circuit, StageCircuits}
use Rattle.sp_tree_circuits.specs.Laws.{CircuitsAreBuilt}
use Rattle.sp_tree_circuits.proofs.Bodies.{bound_nets, inner_loops, inner_runs, load_acts, store_acts}
use Rattle.sp_tree_circuits.specs.Given.{Laws}
use Rattle.sp_tree_circuits.proofs.Listing.{test_part}
use Rattle.sp_tree_circuits.proofs.Loops.{stage_ready, told_to}
use Rattle.sp_tree_circuits.proofs.StageStands.{stage_nets}
use Rattle.sp_tree_circuits.proofs.MachineLists.{starts_same, all_tests, all_nexts}
use Rattle.sp_tree_circuits.proofs.Machines.{body_ready, same_bodies, starts_stand, tests_stand, nexts_stand, told_starts, told_tests as told_machine_tests, told_nexts, starts_did, tests_did, nexts_did}
use Rattle.sp_tree_circuits.proofs.Ready.{Ready, ready_earlier, answered_in, part_of}
use Rattle.sp_tree_circuits.proofs.Sides.{side_ready, same_rans, stands, did, told_tests}
use Rattle.sp_tree_circuits.proofs.StageLists.{EachStage, each_from}
use Rattle.sp_tree_circuits.proofs.Whole.{acts, stages_act}

module _ (core : PlainCore) (plan : PlainPlan) (delays : Delays) (laws : Laws core plan delays) (s : Signals) (events : List Stamped) (last : ℕ) where
  -- a stage that is ready up to a cycle, and started in time up to the one before, with its runs as those that are asked for
  abbrev IsToBuild : (t : ℕ) → List Near → (nets : ℕ → Nets) → (qs : ℕ → List Scoped) → (runs : ℕ → List Placed) → (child : ℕ → Child) → PlainNode → (j n i : ℕ) → Type 0
  IsToBuild t near nets qs runs child node j n i =
      Ready core plan delays s events node near (nets i) j n (qs i) t × ((u : ℕ) → suc u ≤ t → IsStarted s (child i).start (rans core plan delays node j n (placed (qs i))) u) × (placed (qs i) ≡ runs i)

  inner_built : (t : ℕ) (le : t ≤ last) (near : List Near) (env : Nets) (around : Around) (earlier : List ℕ) (k n : ℕ) (counters : List PlainCounter) (owned : List ℕ) (ops : List PlainOp) (comb : Option ℕ) (qs : List Scoped) (c : Child) → IsRight core around earlier (inner counters owned ops comb)
      → (w : Circuit core plan s (inner counters owned ops comb) near env k c) → Answered core plan s events last (inner counters owned ops comb) near env k n c w → Ready core plan delays s events (inner counters owned ops comb) near env k n qs t → InnerPart core plan delays s t k n counters owned ops comb (placed qs) c
  inner_built t le near env around earlier k n [] owned ops comb qs c right w answered ready = record {
    draft = w.draft;
    ps = w.ps;
    issue = w.issue;
    near = near;
    env = env;
    scopes = scopes_of qs;
    runs_on = w.runs_on;
    issued = single w.issued.issues w.issued.given;
    paced = w.paced;
    timed = w.timed;
    did = inner_runs core plan delays laws s events last t le near env k n [] owned ops comb around earlier right qs ready;
    answered = answered_in core plan delays s events (all_events core plan delays (inner [] owned ops comb) k n (placed qs)) n (number_count (inner [] owned ops comb)) ready.told last t (n + counters_size []) ops w.ps le answered.0;
  }
  inner_built t le near env around earlier k n (x ∷ counters) owned ops comb qs c right w answered ready =
      let v = w.issued in
      let nets = bound_nets core plan delays laws s events last t le near env (all_events core plan delays (inner (x ∷ counters) owned ops comb) k n (placed qs)) n (number_count (inner (x ∷ counters) owned ops comb)) ready.told v.draft n (x ∷ counters) v.part.counters.items v.bounds answered.1 in
      record {
        draft = w.draft;
        ps = w.ps;
        issue = w.issue;
        near = near;
        env = env;
        scopes = scopes_of qs;
        runs_on = w.runs_on;
        issued = subst (λ start. Issued core plan delays s t near env k (x ∷ counters) ops w.ps (placed qs) w.issue (record { start = start; done = c.done })) v.start
            (counted v.part v.nets v.counts v.issues v.given v.lanes (inner_loops core plan delays laws s events last t le near env k n (x ∷ counters) owned ops comb around earlier right qs ready v.draft v.runs_on v.part.counters.items nets));
        paced = w.paced;
        timed = w.timed;
        did = inner_runs core plan delays laws s events last t le near env k n (x ∷ counters) owned ops comb around earlier right qs ready;
        answered = answered_in core plan delays s events (all_events core plan delays (inner (x ∷ counters) owned ops comb) k n (placed qs)) n (number_count (inner (x ∷ counters) owned ops comb)) ready.told last t (n + counters_size (x ∷ counters)) ops w.ps le answered.0;
      }

  mutual
    built : (node : PlainNode) (near : List Near) (env : Nets) (around : Around) (earlier : List ℕ) (k n : ℕ) (qs : List Scoped) (c : Child) → (is : IsTimed node) (right : IsRight core around earlier node) (w : Circuit core plan s node near env k c) → Answered core plan s events last node near env k n c w
        → TransfersMove core plan delays s last node near env k n qs c w → (t : ℕ) → t ≤ last → Ready core plan delays s events node near env k n qs t → ((u : ℕ) → suc u ≤ t → IsStarted s c.start (rans core plan delays node k n (placed qs)) u) → Built core plan delays s t node k n (placed qs) c
    built (branch ops first second) near env around earlier k n qs c is right w answered move t le ready started =
        let before : (u : ℕ) → suc u ≤ t → Acts core plan delays s events u (branch ops first second) near env k n qs c w =
        λ u l. acts core plan delays laws s events last (branch ops first second) near env around earlier k n qs c is right w answered move u (omega (arith, l, le)) (ready_earlier core plan delays s events (branch ops first second) near env k n qs t u (omega (arith, l)) ready) (started u l) in
        let p = test_part core plan delays s events last t n le ops near env (map (test_list k) qs) w.test w.tested w.tests (stands core plan delays laws k n ops first second s events near env qs is t ready last le around earlier right c w answered.0) answered.0
        (told_tests core plan delays laws k n ops first second s events near env qs is t ready last le around earlier right c w answered.0) in
        let tells = laws.tests s t k n ops first second near env around earlier qs w.test w.tested right ready.did.done ready.did.fits p in (
          record {
            test = w.test;
            tested = w.tested;
            chosen = w.chosen;
            left = w.left;
            circuit = w.circuit;
            does = tells.0;
            tells = tells.1;
            one = subst (λ rs. Built core plan delays s t first (suc k) (n + length ops) rs w.chosen) (laws.parts.sides k ops true qs)
                (built first near env around earlier (suc k) (n + length ops) (scoped_sides core plan delays ops k true qs) w.chosen is.0 right.1 w.one answered.1 move.0 t le (side_ready core plan delays laws k n ops first second s events near env qs is t ready true)
                (λ u l. (part_of core plan delays s events u first near env (suc k) (n + length ops) (scoped_sides core plan delays ops k true qs) w.chosen w.one (before u l).2).starts));
            other = subst (λ rs. Built core plan delays s t second (suc k + node_count first) (n + (length ops + number_count first)) rs w.left) (laws.parts.sides k ops false qs)
                (built second near env around _ (suc k + node_count first) (n + (length ops + number_count first)) (scoped_sides core plan delays ops k false qs) w.left is.1 right.2 w.other answered.2 move.1 t le (side_ready core plan delays laws k n ops first second s events near env qs is t ready false)
                (λ u l. (part_of core plan delays s events u second near env (suc k + node_count first) (n + (length ops + number_count first)) (scoped_sides core plan delays ops k false qs) w.left w.other (before u l).3).starts));
          },
          record {
            lists = map (test_list k) qs;
            same = same_rans core plan delays laws k n ops first second qs;
            near = near;
            env = env;
            word = w.tested;
            part = p;
            did = did core plan delays laws k n ops first second s events near env qs is t ready last le around earlier right c w answered.0;
          },
        )
    built (fsm start state ops node after) near env around earlier k n qs c is right w answered move t le ready started =
        let before : (u : ℕ) → suc u ≤ t → Acts core plan delays s events u (fsm start state ops node after) near env k n qs c w =
        λ u l. acts core plan delays laws s events last (fsm start state ops node after) near env around earlier k n qs c is right w answered move u (omega (arith, l, le)) (ready_earlier core plan delays s events (fsm start state ops node after) near env k n qs t u (omega (arith, l)) ready) (started u l) in
        let a = test_part core plan delays s events last t n le start near env (map (start_list core plan delays k n start ops node after) qs) w.first w.begun w.begins (starts_stand core plan delays laws k n start state ops node after s events near env qs is t ready) answered.0
        (told_starts core plan delays laws k n start state ops node after s events near env qs is t ready) in
        let b = test_part core plan delays s events last t (n + length start) le ops near env (test_lists core plan delays k n start ops node after qs) w.test w.tested w.tests (tests_stand core plan delays laws k n start state ops node after s events near env qs is t ready) answered.1
        (told_machine_tests core plan delays laws k n start state ops node after s events near env qs is t ready) in
        let d = test_part core plan delays s events last t (n + (length start + (length ops + number_count node))) le after near env (next_lists core plan delays k n start ops node after qs) w.next w.stepped w.steps (nexts_stand core plan delays laws k n start state ops node after s events near env qs is t ready) answered.2
        (told_nexts core plan delays laws k n start state ops node after s events near env qs is t ready) in
        let tells = laws.turns s t k n start state ops node after near env around earlier qs w.first w.test w.next w.begun w.tested w.stepped right ready.did.done ready.did.fits a b d in (
          record {
            first = w.first;
            test = w.test;
            tested = w.tested;
            body = w.body;
            next = w.next;
            circuit = w.circuit;
            begins = tells.begins;
            does = tells.does;
            tells = tells.tells;
            goes = subst (λ rs. Built core plan delays s t node (suc k) (n + (length start + length ops)) rs w.body) (same_bodies core plan delays laws k n start state ops node after s events near env qs is t ready)
                (built node near env _ _ (suc k) (n + (length start + length ops)) (scoped_bodies core plan delays start ops after node k n qs) w.body is right.1 w.goes answered.3 move t le (body_ready core plan delays laws k n start state ops node after s events near env qs is t ready)
                (λ u l. (part_of core plan delays s events u node near env (suc k) (n + (length start + length ops)) (scoped_bodies core plan delays start ops after node k n qs) w.body w.goes (before u l).4).starts));
            steps = tells.steps;
          },
          record { lists = map (start_list core plan delays k n start ops node after) qs; same = starts_same core plan delays k n start state ops node after qs; near = near; env = env; word = w.begun; part = a; did = starts_did core plan delays laws k n start state ops node after s events near env qs is t ready around earlier right },
          record { lists = test_lists core plan delays k n start ops node after qs; same = all_tests core plan delays k n start state ops node after qs ready.did.done; near = near; env = env; word = w.tested; part = b; did = tests_did core plan delays laws k n start state ops node after s events near env qs is t ready around earlier right },
          record { lists = next_lists core plan delays k n start ops node after qs; same = all_nexts core plan delays k n start state ops node after qs ready.did.done; near = near; env = env; word = w.stepped; part = d; did = nexts_did core plan delays laws k n start state ops node after s events near env qs is t ready around earlier right },
        )
    built (outer counters style owned stages) near env around earlier k n qs c is right w answered move t le ready started =
        let near_nets : (stage : ℕ) → Nets = stage_nets core plan delays laws s events last near env around earlier k n counters style owned stages right is c w answered.0 qs t le ready in
        let goes = stages_act core plan delays laws s events last stages (own_near counters near) _ _ (suc k) (n + counters_size counters) 0 near_nets (λ i. scoped_stages core plan delays counters owned stages k n i qs) w.child is.1 right.1 w.parts answered.1 move in
        let told = told_to core plan delays laws s events last near env around earlier k n counters style owned stages right is c w answered.0 qs t le ready goes t (omega arith) started in
        record {
          more = w.nets.more;
          step = w.part.step;
          slots = w.slots;
          firsts = w.firsts;
          places = w.places;
          child = w.child;
          circuit = w.circuit;
          arranged = w.arranged;
          size = w.size;
          shaped = w.shaped;
          tells = told.tells;
          members = told.members;
          parts = stages_built stages (own_near counters near) _ _ (suc k) (n + counters_size counters) 0 near_nets (λ i. scoped_stages core plan delays counters owned stages k n i qs) (λ i. stage_runs core plan delays counters owned stages k n i (placed qs)) w.child is.1 right.1 w.parts answered.1 move t le
              (each_from (IsToBuild t (own_near counters near) near_nets (λ i. scoped_stages core plan delays counters owned stages k n i qs) (λ i. stage_runs core plan delays counters owned stages k n i (placed qs)) w.child) stages (suc k) (n + counters_size counters) 0 (λ i few.
              subst (IsToBuild t (own_near counters near) near_nets (λ i. scoped_stages core plan delays counters owned stages k n i qs) (λ i. stage_runs core plan delays counters owned stages k n i (placed qs)) w.child (stage_at stages i) (node_at stages (suc k) i) (number_at stages (n + counters_size counters) i)) {x = i} {y = 0 + i} (omega arith) (
                stage_ready core plan delays laws s events last near env around earlier k n counters style owned stages right is c w answered.0 qs t le ready goes t told.stands i few,
                λ u l. subst (λ rs. IsStarted s (w.child i).start (rans core plan delays (stage_at stages i) (node_at stages (suc k) i) (number_at stages (n + counters_size counters) i) rs) u) (sym (laws.parts.stages k n counters owned stages i qs)) (told.begun u l i few),
                laws.parts.stages k n counters owned stages i qs,
              )));
        }
    built (inner counters owned ops comb) near env around earlier k n qs c is right w answered move t le ready started = inner_built t le near env around earlier k n counters owned ops comb qs c right w answered ready
    built (load r m spans) near env around earlier k n qs c is right w answered move t le ready started =
        λ u l begun. (load_acts core plan delays laws s events last u (omega (arith, l, le)) near env k n r m spans around earlier qs right (ready_earlier core plan delays s events (load r m spans) near env k n qs t u l ready) c w answered move begun).0.ends
    built (store r m spans) near env around earlier k n qs c is right w answered move t le ready started =
        λ u l begun. (store_acts core plan delays laws s events last u (omega (arith, l, le)) near env k n r m spans around earlier qs right (ready_earlier core plan delays s events (store r m spans) near env k n qs t u l ready) c w answered move begun).0.ends
    built (sparse kind r m places spans count par) near env around earlier k n qs c is right w answered move t le ready started = elim is [ ]

    stages_built : (stages : PlainStages) (near : List Near) (around : Around) (earlier : List ℕ) (j n i : ℕ) (nets : (stage : ℕ) → Nets) (qs : (stage : ℕ) → List Scoped) (runs : (stage : ℕ) → List Placed) (child : (stage : ℕ) → Child) → AreTimed stages → AreRight core around earlier stages
        → (w : StageCircuits core plan s stages near j i nets child) → EachInLists core plan s (AreAnsweredInTime s events last) stages near j n i nets child w → EachInStages core plan delays s (MovesInTime core plan delays s last) stages near j n i nets qs child w
        → (t : ℕ) → t ≤ last → EachStage (IsToBuild t near nets qs runs child) stages j n i → StagesBuilt core plan delays s t stages j n i runs child
    stages_built no_stage near around earlier j n i nets qs runs child is right w answered move t le each = tt
    stages_built (more_stage first final comb node rest) near around earlier j n i nets qs runs child is right w answered move t le each = (
      subst (λ rs. Built core plan delays s t node j n rs (child i)) each.0.2 (built node near (nets i) around earlier j n (qs i) (child i) is.0 right.0 w.0 answered.0 move.0 t le each.0.0 each.0.1),
      stages_built rest near around _ (j + node_count node) (n + number_count node) (suc i) nets qs runs child is.1 right.1 w.1 answered.1 move.1 t le each.1,
    )

pub circuits_are_built : (core : PlainCore) (plan : PlainPlan) (delays : Delays) → Laws core plan delays → CircuitsAreBuilt core plan delays
circuits_are_built core plan delays laws s events last node near env around earlier k n from until qs c is right did told w answered move t le stand started =
    built core plan delays laws s events last node near env around earlier k n qs c is right w answered move t le (record { from = from; until = until; did = did; told = told; stand = stand }) started
