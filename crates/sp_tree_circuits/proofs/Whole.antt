-- Circuits of trees go: one induction over the tree.
use Rattle.std.proofs.Common.{ℕ, zero, suc, ◌+◌, ◌≤◌, true, false, List, [], ◌∷◌, length, arith}
use Rattle.sp_netlist.specs.declared.parts.Child.{Child}
use Rattle.sp_netlist.specs.Signals.{Signals}
use Rattle.sp_gates.specs.Tested.{is_on}
use Rattle.sp_part_runs.specs.ControlParts.{Begins}
use Rattle.sp_core.specs.Around.{Around, Near, nothing}
use Rattle.sp_core.specs.Invariant.{IsRight, AreRight}
use Rattle.sp_core.specs.Numbering.{counters_size, node_count, number_count}
use Rattle.sp_core.specs.PlainCore.{PlainNode, PlainStages, inner, outer, fsm, branch, load, store, sparse, no_stage, more_stage, PlainCore}
use Rattle.sp_plan.specs.PlainPlan.{PlainPlan}
use Rattle.sp_machine.specs.Stamps.{Stamped}
use Rattle.sp_machine.specs.Transfers.{Delays}
use Rattle.sp_overlap.specs.Whole.{IsTimed, AreTimed}
use Rattle.sp_node_runs.specs.Runs.{over_at}
use Rattle.sp_node_runs.specs.ControlLaws.{IsStarted}
use Rattle.sp_node_runs.specs.ControlRuns.{rans}
use Rattle.sp_node_runs.specs.BodiesGiven.{Nets}
use Rattle.sp_node_runs.specs.BodiesLaws.{own_near}
use Rattle.sp_node_runs.specs.BodiesTold.{AreAnsweredInTime}
use Rattle.sp_tree_runs.specs.BodiesScoped.{Scoped, placed, scoped_sides, scoped_bodies, scoped_stages}
use Rattle.sp_tree_circuits.specs.Answers.{Answered, EachInLists, TransfersMove, EachInStages, MovesInTime}
use Rattle.sp_tree_circuits.specs.Acts.{Acts}
use Rattle.sp_tree_circuits.specs.Circuits.{Circuit, StageCircuits}
use Rattle.sp_tree_circuits.specs.Laws.{CircuitsGo, core_run, core_events, CoresGo, CirclesClose}
use Rattle.sp_tree_circuits.proofs.Alike.{of_itself}
use Rattle.sp_tree_circuits.proofs.Bodies.{inner_acts, load_acts, store_acts}
use Rattle.sp_tree_circuits.specs.Given.{Laws}
use Rattle.sp_tree_circuits.proofs.Loops.{StageGoes, loop_acts}
use Rattle.sp_tree_circuits.proofs.Machines.{body_ready, machine_acts}
use Rattle.sp_tree_circuits.proofs.Ready.{earlier, Ready, ready_earlier}
use Rattle.sp_tree_circuits.proofs.Sides.{side_ready, branch_acts}
use Rattle.sp_tree_circuits.proofs.StageLists.{EachCircuit}

module _ (core : PlainCore) (plan : PlainPlan) (delays : Delays) (laws : Laws core plan delays) (s : Signals) (events : List Stamped) (last : ℕ) where
  mutual
    pub acts : (node : PlainNode) (near : List Near) (env : Nets) (around : Around) (earlier : List ℕ) (k n : ℕ) (qs : List Scoped) (c : Child) → IsTimed node → IsRight core around earlier node → (w : Circuit core plan s node near env k c) → Answered core plan s events last node near env k n c w
        → TransfersMove core plan delays s last node near env k n qs c w → (t : ℕ) → t ≤ last → Ready core plan delays s events node near env k n qs t → IsStarted s c.start (rans core plan delays node k n (placed qs)) t → Acts core plan delays s events t node near env k n qs c w
    acts (branch ops first second) near env around earlier k n qs c is right w answered move t le ready started =
        branch_acts core plan delays laws k n ops first second s events near env qs is t ready last le around earlier right c w answered.0
        (λ u l begun. acts first near env around earlier (suc k) (n + length ops) (scoped_sides core plan delays ops k true qs) w.chosen is.0 right.1 w.one answered.1 move.0 u (omega (arith, l, le))
        (ready_earlier core plan delays s events first near env (suc k) (n + length ops) (scoped_sides core plan delays ops k true qs) t u l (side_ready core plan delays laws k n ops first second s events near env qs is t ready true)) begun)
        (λ u l begun. acts second near env around _ (suc k + node_count first) (n + (length ops + number_count first)) (scoped_sides core plan delays ops k false qs) w.left is.1 right.2 w.other answered.2 move.1 u (omega (arith, l, le))
        (ready_earlier core plan delays s events second near env (suc k + node_count first) (n + (length ops + number_count first)) (scoped_sides core plan delays ops k false qs) t u l (side_ready core plan delays laws k n ops first second s events near env qs is t ready false)) begun) started
    acts (fsm start state ops node after) near env around earlier k n qs c is right w answered move t le ready started =
        machine_acts core plan delays laws k n start state ops node after s events near env qs is t ready around earlier right last le c w answered.0 answered.1 answered.2
        (λ u l begun. acts node near env _ _ (suc k) (n + (length start + length ops)) (scoped_bodies core plan delays start ops after node k n qs) w.body is right.1 w.goes answered.3 move u (omega (arith, l, le))
        (ready_earlier core plan delays s events node near env (suc k) (n + (length start + length ops)) (scoped_bodies core plan delays start ops after node k n qs) t u l (body_ready core plan delays laws k n start state ops node after s events near env qs is t ready)) begun) started
    acts (outer counters style owned stages) near env around earlier k n qs c is right w answered move t le ready started =
        loop_acts core plan delays laws s events last near env around earlier k n counters style owned stages right is c w answered.0 qs t le ready
        (stages_act stages (own_near counters near) _ _ (suc k) (n + counters_size counters) 0 _ (λ i. scoped_stages core plan delays counters owned stages k n i qs) w.child is.1 right.1 w.parts answered.1 move) started
    acts (inner counters owned ops comb) near env around earlier k n qs c is right w answered move t le ready started = inner_acts core plan delays laws s events last t le near env k n counters owned ops comb around earlier right qs ready c w answered started
    acts (load r m spans) near env around earlier k n qs c is right w answered move t le ready started = load_acts core plan delays laws s events last t le near env k n r m spans around earlier qs right ready c w answered move started
    acts (store r m spans) near env around earlier k n qs c is right w answered move t le ready started = store_acts core plan delays laws s events last t le near env k n r m spans around earlier qs right ready c w answered move started
    acts (sparse kind r m places spans count par) near env around earlier k n qs c is right w answered move t le ready started = elim is [ ]

    pub stages_act : (stages : PlainStages) (near : List Near) (around : Around) (earlier : List ℕ) (j n i : ℕ) (nets : (stage : ℕ) → Nets) (qs : (stage : ℕ) → List Scoped) (child : (stage : ℕ) → Child) → AreTimed stages → AreRight core around earlier stages
        → (w : StageCircuits core plan s stages near j i nets child) → EachInLists core plan s (AreAnsweredInTime s events last) stages near j n i nets child w → EachInStages core plan delays s (MovesInTime core plan delays s last) stages near j n i nets qs child w
        → EachCircuit core plan s near nets child (StageGoes core plan delays s events last near nets qs child) stages j n i w
    stages_act no_stage near around earlier j n i nets qs child is right w answered move = tt
    stages_act (more_stage first final comb node rest) near around earlier j n i nets qs child is right w answered move = (
      λ t le ready started. acts node near (nets i) around earlier j n (qs i) (child i) is.0 right.0 w.0 answered.0 move.0 t le ready started,
      stages_act rest near around _ (j + node_count node) (n + number_count node) (suc i) nets qs child is.1 right.1 w.1 answered.1 move.1,
    )

pub circuits_go : (core : PlainCore) (plan : PlainPlan) (delays : Delays) → Laws core plan delays → CircuitsGo core plan delays
circuits_go core plan delays laws s events last node near env around earlier k n from until qs c is right did told w answered move t le stand started =
    acts core plan delays laws s events last node near env around earlier k n qs c is right w answered move t le (record { from = from; until = until; did = did; told = told; stand = stand }) started

pub cores_go : (core : PlainCore) (plan : PlainPlan) (delays : Delays) → CircuitsGo core plan delays → CoresGo core plan delays
cores_go core plan delays go s last env h c is_core is done fits w answered move t le started =
    go s (core_events core plan delays h) last core.root [] env nothing [] 0 0 0 (over_at core plan delays core.root 0 0 (core_run core plan delays h).run) (core_run core plan delays h ∷ []) c is is_core.nodes
    (record { done = (done, tt); fits = (fits, tt); in_turn = (omega arith, omega arith) }) (of_itself (core_events core plan delays h) 0 (number_count core.root)) w answered move t le
    (λ q u there low high late d lane has. absurd (cc (has))) started

pub circles_close : (core : PlainCore) (plan : PlainPlan) (delays : Delays) → CoresGo core plan delays → CirclesClose core plan delays
circles_close core plan delays go s last env h c is_core is done fits w started answered move next zero l =
    go s 0 env h c is_core is done fits w answered move 0 (omega arith) (earlier (is_on s c.start) (Begins (rans core plan delays core.root 0 0 (placed (core_run core plan delays h ∷ [])))) last 0 l started)
circles_close core plan delays go s last env h c is_core is done fits w started answered move next (suc t) l =
    let before = circles_close core plan delays go s last env h c is_core is done fits w started answered move next t (omega (arith, l)) in
    let n = next t (omega (arith, l)) before in
    go s (suc t) env h c is_core is done fits w n.0 n.1 (suc t) (omega arith) (earlier (is_on s c.start) (Begins (rans core plan delays core.root 0 0 (placed (core_run core plan delays h ∷ [])))) last (suc t) l started)
