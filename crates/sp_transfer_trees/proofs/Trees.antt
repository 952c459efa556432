-- The transfers of a tree go as the timeline says: one induction over the tree, by the laws of one load and one store.
use Rattle.std.proofs.Common.{◌≡◌, ℕ, suc, ◌+◌, ◌<◌, ◌≤◌, true, false, List, [], ◌∷◌, length, refl, sym, ap, subst, arith}
use Rattle.sp_netlist.specs.declared.parts.Child.{Child}
use Rattle.sp_netlist.specs.Signals.{Setting, Signals}
use Rattle.sp_gates.specs.Tested.{is_on}
use Rattle.sp_core.specs.Around.{Around, Near, nothing}
use Rattle.sp_words.specs.declared.kind.Style.{Style}
use Rattle.sp_core.specs.History.{History, moved}
use Rattle.sp_core.specs.Invariant.{IsRight, AreRight}
use Rattle.sp_core.specs.MemoryRules.{are_memories_right}
use Rattle.sp_core.specs.Numbering.{counters_size, node_count, number_count}
use Rattle.sp_core.specs.PlainCore.{PlainOp, PlainCounter, PlainSpan, PlainNode, PlainStages, inner, outer, fsm, branch, load, store, sparse, no_stage, more_stage, PlainCore}
use Rattle.sp_plan.specs.PlainPlan.{PlainPlan, node_plan}
use Rattle.sp_plan.specs.Validity.{stage_count}
use Rattle.sp_time.specs.Beats.{slot_at}
use Rattle.sp_machine.specs.Timeline.{slots_of}
use Rattle.sp_machine.specs.Transfers.{Delays}
use Rattle.sp_overlap.specs.Whole.{IsTimed, AreTimed}
use Rattle.sp_part_runs.specs.BodiesRuns.{IsOnAt}
use Rattle.sp_part_runs.specs.ControlParts.{Ends}
use Rattle.sp_node_runs.specs.Runs.{Placed, AreWithin, over_at, stage_at, node_at, number_at, stage_runs}
use Rattle.sp_node_runs.specs.FitsLaws.{AllFit}
use Rattle.sp_node_runs.specs.ControlRuns.{rans}
use Rattle.sp_node_runs.specs.BodiesGiven.{Nets}
use Rattle.sp_node_runs.specs.BodiesLaws.{own_near}
use Rattle.sp_node_runs.specs.BodiesSpans.{SpanNets, HaveSpans}
use Rattle.sp_tree_runs.specs.BodiesScoped.{Scoped, placed, scoped_sides, scoped_bodies, scoped_stages}
use Rattle.sp_tree_circuits.specs.Answers.{taken_in as taken_of, EachTransfer, EachInStages, MovesInTime}
use Rattle.sp_tree_circuits.specs.Circuits.{slot_nets, Circuit, StageCircuits}
use Rattle.sp_tree_circuits.specs.Laws.{DidRuns, core_run}
use Rattle.sp_transfer_runs.specs.Runs.{taken_in, words_in}
use Rattle.sp_transfer_runs.specs.Trees.{EachMoved}
use Rattle.sp_transfer_runs.specs.Delays.{delays_of, AllTaken, StagesTaken, DelaysAreThere}
use Rattle.sp_transfer_trees.specs.Trees.{HasTransfer, TransferGoes, TreesTransfer, GoingIsMoving, CoresTransfer}
use Rattle.sp_transfer_trees.specs.Given.{Laws}
use Rattle.sp_node_runs.proofs.BodiesListed.{mapped_from}
use Rattle.sp_tree_circuits.proofs.Mapping.{transfers_give}

-- both names for what a transfer took
same_taken : (h : History) → h ≡ moved (taken_in h) (words_in h) → taken_of h ≡ taken_in h
same_taken h e = ap taken_of e

module _ (core : PlainCore) (plan : PlainPlan) (delays : Delays) (laws : Laws core plan delays) where
  sides_did : (k n from until : ℕ) (ops : List PlainOp) (first second : PlainNode) (qs : List Scoped) → DidRuns core plan delays (branch ops first second) k n from until qs
      → DidRuns core plan delays first (suc k) (n + length ops) from until (scoped_sides core plan delays ops k true qs)
      × DidRuns core plan delays second (suc k + node_count first) (n + (length ops + number_count first)) from until (scoped_sides core plan delays ops k false qs)
  sides_did k n from until ops first second qs did =
      let done = laws.parts.sides_done k ops first second qs did.done in
      let fits = laws.fits.branches k ops first second (placed qs) did.fits in
      let turns = laws.sides_turn k n ops first second from until (placed qs) did.in_turn in (
        record {
          done = done.0;
          fits = subst (AllFit core plan delays first) (sym (laws.parts.sides k ops true qs)) fits.1;
          in_turn = subst (AreWithin core plan delays first (suc k) (n + length ops) from until) (sym (laws.parts.sides k ops true qs)) turns.0;
        },
        record {
          done = done.1;
          fits = subst (AllFit core plan delays second) (sym (laws.parts.sides k ops false qs)) fits.2;
          in_turn = subst (AreWithin core plan delays second (suc k + node_count first) (n + (length ops + number_count first)) from until) (sym (laws.parts.sides k ops false qs)) turns.1;
        },
      )

  bodies_did : (k n from until : ℕ) (start : List PlainOp) (state : ℕ) (ops : List PlainOp) (node : PlainNode) (after : List PlainOp) (qs : List Scoped) → DidRuns core plan delays (fsm start state ops node after) k n from until qs
      → DidRuns core plan delays node (suc k) (n + (length start + length ops)) from until (scoped_bodies core plan delays start ops after node k n qs)
  bodies_did k n from until start state ops node after qs did = record {
    done = laws.parts.bodies_done k n start state ops node after qs did.done;
    fits = subst (AllFit core plan delays node) (sym (laws.parts.bodies k n start ops node after qs)) (laws.fits.machines k n start state ops node after (placed qs) did.fits).1;
    in_turn = subst (AreWithin core plan delays node (suc k) (n + (length start + length ops)) from until) (sym (laws.parts.bodies k n start ops node after qs)) (laws.bodies_turn k n start state ops node after from until (placed qs) did.in_turn);
  }

  stages_did : (k n from until : ℕ) (counters : List PlainCounter) (style : Style) (owned : List ℕ) (stages : PlainStages) (qs : List Scoped) → length (slots_of (node_plan plan k)) ≡ stage_count stages → DidRuns core plan delays (outer counters style owned stages) k n from until qs
      → (i : ℕ) → i < stage_count stages → DidRuns core plan delays (stage_at stages i) (node_at stages (suc k) i) (number_at stages (n + counters_size counters) i) from until (scoped_stages core plan delays counters owned stages k n i qs)
  stages_did k n from until counters style owned stages qs size did i few = record {
    done = laws.parts.stages_done k n counters style owned stages i qs did.done;
    fits = subst (AllFit core plan delays (stage_at stages i)) (sym (laws.parts.stages k n counters owned stages i qs)) ((laws.fits.outers k n counters style owned stages (placed qs) did.fits).1 i);
    in_turn = subst (AreWithin core plan delays (stage_at stages i) (node_at stages (suc k) i) (number_at stages (n + counters_size counters) i) from until) (sym (laws.parts.stages k n counters owned stages i qs))
        (laws.stages_turn k n counters style owned stages i (omega (arith, size, few)) from until (placed qs) did.in_turn);
  }

  module _ (g : Setting) (s : Signals) (bound last : ℕ) (took : (node ask : ℕ) → ℕ) (memories : are_memories_right core ≡ true) (few : last ≤ bound) where
    abbrev Has : PlainNode → (k n : ℕ) → List Scoped → Child → List SpanNets → Type 0
    Has = HasTransfer core plan delays g s bound last took

    abbrev Goes : PlainNode → (k n : ℕ) → List Scoped → Child → List SpanNets → Type 0
    Goes = TransferGoes core plan delays g s bound last took

    load_goes : (r m : ℕ) (spans : List PlainSpan) (around : Around) (earlier : List ℕ) (k n from until : ℕ) (qs : List Scoped) (c : Child) (nets : List SpanNets) → IsRight core around earlier (load r m spans) → DidRuns core plan delays (load r m spans) k n from until qs
        → EachMoved core (load r m spans) (placed qs) → AllTaken core plan delays took (load r m spans) k n (placed qs) → Has (load r m spans) k n qs c nets → Goes (load r m spans) k n qs c nets
    load_goes r m spans around earlier k n from until qs c nets right did all_moved taken has =
        let slices = laws.moved.loads around earlier r m spans (placed qs) memories right did.fits all_moved in
        record {
          has = has.0;
          goes = λ w t le started stand.
              laws.loads g s bound last k n r m (took k) spans nets c (placed qs) w (record { from = from; until = until; in_turn = did.in_turn; did = slices; delays_are = taken; found = has.1 }) few t le started
              (λ q there soon.
              let x = mapped_from (λ (y : Scoped). y.run) qs q there in
              let same : taken_of q.history ≡ taken_in q.history = same_taken q.history (slices q there).is in
              subst (HaveSpans s q.cycle nets) same (subst (λ (y : Placed). HaveSpans s y.cycle nets (taken_of y.history)) x.2 (stand x.0 x.1 (subst (λ (y : Placed). y.cycle ≤ t) (sym x.2) soon))));
        }

    store_goes : (r m : ℕ) (spans : List PlainSpan) (around : Around) (earlier : List ℕ) (k n from until : ℕ) (qs : List Scoped) (c : Child) (nets : List SpanNets) → IsRight core around earlier (store r m spans) → DidRuns core plan delays (store r m spans) k n from until qs
        → EachMoved core (store r m spans) (placed qs) → AllTaken core plan delays took (store r m spans) k n (placed qs) → Has (store r m spans) k n qs c nets → Goes (store r m spans) k n qs c nets
    store_goes r m spans around earlier k n from until qs c nets right did all_moved taken has =
        let slices = laws.moved.stores around earlier r m spans (placed qs) memories right did.fits all_moved in
        record {
          has = has;
          goes = λ w t le started stand.
              laws.stores g s bound k n r m (took k) spans nets c (placed qs) w (record { from = from; until = until; in_turn = did.in_turn; did = slices; delays_are = taken }) t (omega (arith, le, few)) started
              (λ q there soon.
              let x = mapped_from (λ (y : Scoped). y.run) qs q there in
              let same : taken_of q.history ≡ taken_in q.history = same_taken q.history (slices q there).is in
              subst (HaveSpans s q.cycle nets) same (subst (λ (y : Placed). HaveSpans s y.cycle nets (taken_of y.history)) x.2 (stand x.0 x.1 (subst (λ (y : Placed). y.cycle ≤ t) (sym x.2) soon))));
        }

    -- what is known of a stage
    record IsStage (from until : ℕ) (qs : (stage : ℕ) → List Scoped) (node : PlainNode) (j n i : ℕ) : Type 0 where
      did : DidRuns core plan delays node j n from until (qs i)
      all_moved : EachMoved core node (placed (qs i))

    mutual
      go : (node : PlainNode) (near : List Near) (env : Nets) (around : Around) (earlier : List ℕ) (k n from until : ℕ) (qs : List Scoped) (c : Child) → IsTimed node → IsRight core around earlier node → DidRuns core plan delays node k n from until qs
          → EachMoved core node (placed qs) → AllTaken core plan delays took node k n (placed qs) → (w : Circuit core plan s node near env k c) → EachTransfer core plan delays s Has node near env k n qs c w → EachTransfer core plan delays s Goes node near env k n qs c w
      go (branch ops first second) near env around earlier k n from until qs c is right did all_moved taken w has =
          let part = sides_did k n from until ops first second qs did in
          let each = laws.moved.sides k ops first second (placed qs) all_moved in (
            go first near env around earlier (suc k) (n + length ops) from until (scoped_sides core plan delays ops k true qs) w.chosen is.0 right.1 part.0
                (subst (EachMoved core first) (sym (laws.parts.sides k ops true qs)) each.0) (subst (AllTaken core plan delays took first (suc k) (n + length ops)) (sym (laws.parts.sides k ops true qs)) taken.0) w.one has.0,
            go second near env around _ (suc k + node_count first) (n + (length ops + number_count first)) from until (scoped_sides core plan delays ops k false qs) w.left is.1 right.2 part.1
                (subst (EachMoved core second) (sym (laws.parts.sides k ops false qs)) each.1) (subst (AllTaken core plan delays took second (suc k + node_count first) (n + (length ops + number_count first))) (sym (laws.parts.sides k ops false qs)) taken.1) w.other has.1,
          )
      go (fsm start state ops node after) near env around earlier k n from until qs c is right did all_moved taken w has =
          go node near env _ _ (suc k) (n + (length start + length ops)) from until (scoped_bodies core plan delays start ops after node k n qs) w.body is right.1 (bodies_did k n from until start state ops node after qs did)
          (subst (EachMoved core node) (sym (laws.parts.bodies k n start ops node after qs)) (laws.moved.bodies k n start state ops node after (placed qs) all_moved))
          (subst (AllTaken core plan delays took node (suc k) (n + (length start + length ops))) (sym (laws.parts.bodies k n start ops node after qs)) taken) w.goes has
      go (outer counters style owned stages) near env around earlier k n from until qs c is right did all_moved taken w has =
          go_stages stages (own_near counters near) _ _ (suc k) (n + counters_size counters) 0 from until (λ i. slot_nets w.nets w.rows env counters (slot_at (slots_of (node_plan plan k)) i).slot) (λ i. scoped_stages core plan delays counters owned stages k n i qs)
          (λ i. stage_runs core plan delays counters owned stages k n i (placed qs)) (λ i. laws.parts.stages k n counters owned stages i qs) w.child is.1 right.1
          (λ i less. subst (IsStage from until (λ i. scoped_stages core plan delays counters owned stages k n i qs) (stage_at stages i) (node_at stages (suc k) i) (number_at stages (n + counters_size counters) i)) {x = i} {y = 0 + i} (omega arith) (record {
            did = stages_did k n from until counters style owned stages qs w.size did i less;
            all_moved = subst (EachMoved core (stage_at stages i)) (sym (laws.parts.stages k n counters owned stages i qs)) (laws.moved.stages k n counters style owned stages i (placed qs) all_moved);
          })) taken w.parts has
      go (inner counters owned ops comb) near env around earlier k n from until qs c is right did all_moved taken w has = tt
      go (load r m spans) near env around earlier k n from until qs c is right did all_moved taken w has = load_goes r m spans around earlier k n from until qs c w.nets right did all_moved taken has
      go (store r m spans) near env around earlier k n from until qs c is right did all_moved taken w has = store_goes r m spans around earlier k n from until qs c w.nets right did all_moved taken has
      go (sparse kind r m places spans count par) near env around earlier k n from until qs c is right did all_moved taken w has = elim is [ ]

      go_stages : (stages : PlainStages) (near : List Near) (around : Around) (earlier : List ℕ) (j n i from until : ℕ) (nets : (stage : ℕ) → Nets) (qs : (stage : ℕ) → List Scoped) (runs : (stage : ℕ) → List Placed) → ((stage : ℕ) → placed (qs stage) ≡ runs stage)
          → (child : (stage : ℕ) → Child) → AreTimed stages → AreRight core around earlier stages → ((m : ℕ) → m < stage_count stages → IsStage from until qs (stage_at stages m) (node_at stages j m) (number_at stages n m) (i + m)) → StagesTaken core plan delays took stages j n i runs
          → (w : StageCircuits core plan s stages near j i nets child) → EachInStages core plan delays s Has stages near j n i nets qs child w → EachInStages core plan delays s Goes stages near j n i nets qs child w
      go_stages no_stage near around earlier j n i from until nets qs runs same child is right each taken w has = tt
      go_stages (more_stage first final comb node rest) near around earlier j n i from until nets qs runs same child is right each taken w has = (
        go node near (nets i) around earlier j n from until (qs i) (child i) is.0 right.0 (this each).did (this each).all_moved (subst (AllTaken core plan delays took node j n) (sym (same i)) taken.0) w.0 has.0,
        go_stages rest near around _ (j + node_count node) (n + number_count node) (suc i) from until nets qs runs same child is.1 right.1
            (λ m less. subst (IsStage from until qs (stage_at rest m) (node_at rest (j + node_count node) m) (number_at rest (n + number_count node) m)) {x = i + suc m} {y = suc i + m} (omega arith) (each (suc m) (omega (arith, less)))) taken.1 w.1 has.1,
      )
        where
          this : ((m : ℕ) → m < stage_count (more_stage first final comb node rest) → IsStage from until qs (stage_at (more_stage first final comb node rest) m) (node_at (more_stage first final comb node rest) j m) (number_at (more_stage first final comb node rest) n m) (i + m)) → IsStage from until qs node j n i
          this each = subst (IsStage from until qs node j n) {x = i + 0} {y = i} (omega arith) (each 0 (omega arith))

pub trees_transfer : (core : PlainCore) (plan : PlainPlan) (delays : Delays) → Laws core plan delays → (g : Setting) (s : Signals) (bound last : ℕ) (took : (node ask : ℕ) → ℕ) → TreesTransfer core plan delays g s bound last took
trees_transfer core plan delays laws g s bound last took node near env around earlier k n from until qs c is memories right did all_moved taken w few has = go core plan delays laws g s bound last took memories few node near env around earlier k n from until qs c is right did all_moved taken w has

-- done in time
module _ (core : PlainCore) (plan : PlainPlan) (delays : Delays) (g : Setting) (s : Signals) (bound last : ℕ) (took : (node ask : ℕ) → ℕ) where
  done_so : (node : PlainNode) (k n : ℕ) (qs : List Scoped) (c : Child) (nets : List SpanNets) → TransferGoes core plan delays g s bound last took node k n qs c nets → MovesInTime core plan delays s last node k n qs c nets
  done_so (load r m spans) k n qs c nets goes = λ t le started stand. subst (λ net. IsOnAt (is_on s net) (Ends (rans core plan delays (load r m spans) k n (placed qs))) t) goes.has.ends (goes.goes goes.has t le started stand).ends
  done_so (store r m spans) k n qs c nets goes = λ t le started stand. subst (λ net. IsOnAt (is_on s net) (Ends (rans core plan delays (store r m spans) k n (placed qs))) t) goes.has.ends (goes.goes goes.has t le started stand).ends
  done_so (inner counters owned ops comb) k n qs c nets goes = goes
  done_so (outer counters style owned stages) k n qs c nets goes = goes
  done_so (fsm start state ops node after) k n qs c nets goes = goes
  done_so (branch ops first second) k n qs c nets goes = goes
  done_so (sparse kind r m places spans count par) k n qs c nets goes = goes

  pub going_is_moving : GoingIsMoving core plan delays g s bound last took
  going_is_moving node near env k n qs c w goes = transfers_give core plan delays s (TransferGoes core plan delays g s bound last took) (MovesInTime core plan delays s last) done_so node near env k n qs c w goes

pub cores_transfer : (core : PlainCore) (plan : PlainPlan) → ((delays : Delays) → Laws core plan delays) → ((h : History) (took : (node ask : ℕ) → ℕ) → DelaysAreThere core h took) → CoresTransfer core plan
cores_transfer core plan laws there g s bound last took env h c is_core is done fits all_moved w few has =
    trees_transfer core plan (delays_of core h took) (laws (delays_of core h took)) g s bound last took core.root [] env nothing [] 0 0 0 (over_at core plan (delays_of core h took) core.root 0 0 (core_run core plan (delays_of core h took) h).run) (core_run core plan (delays_of core h took) h ∷ []) c is is_core.memories is_core.nodes
    (record { done = (done, tt); fits = (fits, tt); in_turn = (omega arith, omega arith) }) (all_moved, tt) ((there h took).taken plan 0 (core_run core plan (delays_of core h took) h).run refl) w few has
