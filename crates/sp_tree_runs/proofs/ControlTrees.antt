-- Trees of control do the runs of their nodes.
use Rattle.std.proofs.Common.{ℕ, zero, suc, ◌+◌, ◌<◌, true, false, List, length, sym, subst, arith}
use Rattle.sp_netlist.specs.declared.parts.Child.{Child}
use Rattle.sp_netlist.specs.Signals.{Signals}
use Rattle.sp_sequence.specs.declared.part.Member.{Member}
use Rattle.sp_sequence.specs.declared.part.Slot.{Slot}
use Rattle.sp_part_runs.specs.SequencesPlaces.{stage_at as stage_in}
use Rattle.sp_part_runs.specs.SequencesRuns.{shape_of}
use Rattle.sp_core.specs.Numbering.{counters_size, node_count, number_count}
use Rattle.sp_core.specs.PlainCore.{PlainCounter, PlainNode, PlainStages, inner, outer, fsm, branch, load, store, sparse, no_stage, more_stage, PlainCore}
use Rattle.sp_plan.specs.PlainPlan.{PlainPlan}
use Rattle.sp_plan.specs.Validity.{stage_count}
use Rattle.sp_machine.specs.Transfers.{Delays}
use Rattle.sp_overlap.specs.Whole.{IsTimed, AreTimed}
use Rattle.sp_node_runs.specs.RunsLaws.{SidesComeInTurn, BodiesComeInTurn, StagesComeInTurn}
use Rattle.sp_node_runs.specs.Runs.{Placed, AreWithin, side_runs, body_runs, stage_at, node_at, number_at, stage_runs}
use Rattle.sp_node_runs.specs.ControlBeating.{stage_rans, MemberDoes, SlotsDo, LoopsOfNodesWork}
use Rattle.sp_node_runs.specs.ControlLaws.{Does, BranchesOfNodesWork, MachinesOfNodesWork}
use Rattle.sp_node_runs.specs.ControlRuns.{rans}
use Rattle.sp_node_runs.proofs.ControlNumbering.{numbered_map}
use Rattle.sp_node_runs.specs.FitsLaws.{AllFit, PartsFit, StagesTakeTime}
use Rattle.sp_tree_runs.specs.ControlLaws.{TreesDo}
use Rattle.sp_tree_runs.specs.ControlTrees.{Controls, StagesControl, IsMember, AreMembers}

module _ (core : PlainCore) (plan : PlainPlan) (delays : Delays) (branches : BranchesOfNodesWork core plan delays) (machines : MachinesOfNodesWork core plan delays) (loops : LoopsOfNodesWork core plan delays) (fits : PartsFit core plan delays) (takes : StagesTakeTime core plan delays)
    (sides : SidesComeInTurn core plan delays) (bodies : BodiesComeInTurn core plan delays) (stages_turn : StagesComeInTurn core plan delays) where
  -- members do the runs of their stages
  pub members_do : (s : Signals) (last : ℕ) (child : ℕ → Child) (k n : ℕ) (counters : List PlainCounter) (owned : List ℕ) (stages : PlainStages) (places : List (List (List ℕ))) (runs : List Placed) (slots : List Slot)
      → ((i : ℕ) → i < stage_count stages → Does s (child i) (stage_rans core plan delays k n counters owned stages places i runs) last)
      → AreMembers core plan delays s last child k n counters owned stages places runs slots → SlotsDo core plan delays k n counters owned stages places s runs last slots
  members_do s last child k n counters owned stages places runs slots does are =
      numbered_map _ _ 0 slots (λ x slot l f. numbered_map _ _ 0 slot.chains.items (λ j c m g. numbered_map (λ i m. IsMember core plan delays s last child k n counters owned stages places (shape_of slots) runs x j i m) _ 0 c.members.items (λ i m q h. one x j i m h) g) f) are
    where
      one : (x j i : ℕ) (m : Member) → IsMember core plan delays s last child k n counters owned stages places (shape_of slots) runs x j i m → MemberDoes core plan delays k n counters owned stages places s (shape_of slots) runs last x j i m
      one x j i m h = record {
        child = subst (λ (c : Child). Does s c (stage_rans core plan delays k n counters owned stages places (stage_in places x j i) runs) last) (sym h.part) (does (stage_in places x j i) h.stage);
        wanted = h.wanted;
      }

  -- later stages by their own numbers
  abbrev pub moved : (s : Signals) (last : ℕ) (stages : PlainStages) (j n i : ℕ) (runs : ℕ → List Placed) (child : ℕ → Child) → StagesControl core plan delays s last stages j n (suc i) runs child → StagesControl core plan delays s last stages j n i (λ m. runs (suc m)) (λ m. child (suc m))
  moved s last no_stage j n i runs child p = tt
  moved s last (more_stage first final comb node rest) j n i runs child p = (p.0, moved s last rest (j + node_count node) (n + number_count node) (suc i) runs child p.1)

  mutual
    pub does : (s : Signals) (last : ℕ) (node : PlainNode) (k n from until : ℕ) (runs : List Placed) (c : Child) → IsTimed node → AllFit core plan delays node runs → AreWithin core plan delays node k n from until runs
        → Controls core plan delays s last node k n runs c → Does s c (rans core plan delays node k n runs) last
    does s last (branch ops first second) k n from until runs c is f w p t le started =
        let parts = fits.branches k ops first second runs f in
        let turns = sides k n ops first second from until runs w in
        (branches s c.start p.test p.tested p.chosen p.left c.done last k n ops first second runs p.circuit parts.0 p.does p.tells
        (does s last first (suc k) (n + length ops) from until (side_runs core plan delays ops k true runs) p.chosen is.0 parts.1 turns.0 p.one)
        (does s last second (suc k + node_count first) (n + (length ops + number_count first)) from until (side_runs core plan delays ops k false runs) p.left is.1 parts.2 turns.1 p.other) t le started).ends
    does s last (fsm start state ops node after) k n from until runs c is f w p t le started =
        let parts = fits.machines k n start state ops node after runs f in
        (machines s c.start p.first p.test p.tested p.body p.next c.done last k n start state ops node after runs p.circuit parts.0 p.begins p.does p.tells
        (does s last node (suc k) (n + (length start + length ops)) from until (body_runs core plan delays start ops after node k n runs) p.body is parts.1 (bodies k n start state ops node after from until runs w) p.goes) p.steps t le started).ends
    does s last (outer counters style owned stages) k n from until runs c is f w p t le started =
        let parts = fits.outers k n counters style owned stages runs f in
        (loops s c.start p.more p.step p.slots p.firsts c.done last k n counters style owned stages p.places from until runs p.circuit parts.0 w p.arranged p.shaped
        (takes k n counters style owned stages p.places runs f is.1 p.arranged p.size) p.tells
        (members_do s last p.child k n counters owned stages p.places runs p.slots
        (λ i l. stages_do s last stages (suc k) (n + counters_size counters) from until (λ i. stage_runs core plan delays counters owned stages k n i runs) p.child is.1
        (λ i l. parts.1 i) (λ i l. stages_turn k n counters style owned stages i (let z = p.size in omega (arith, z, l)) from until runs w) p.parts i l) p.members) t le started).ends
    does s last (inner counters owned ops comb) k n from until runs c is f w p t le started = p t le started
    does s last (load r m spans) k n from until runs c is f w p t le started = p t le started
    does s last (store r m spans) k n from until runs c is f w p t le started = p t le started
    does s last (sparse kind r m places spans count par) k n from until runs c is f w p t le started = p t le started

    pub stages_do : (s : Signals) (last : ℕ) (stages : PlainStages) (j n from until : ℕ) (runs : ℕ → List Placed) (child : ℕ → Child) → AreTimed stages
        → ((i : ℕ) → i < stage_count stages → AllFit core plan delays (stage_at stages i) (runs i))
        → ((i : ℕ) → i < stage_count stages → AreWithin core plan delays (stage_at stages i) (node_at stages j i) (number_at stages n i) from until (runs i))
        → StagesControl core plan delays s last stages j n 0 runs child
        → (i : ℕ) → i < stage_count stages → Does s (child i) (rans core plan delays (stage_at stages i) (node_at stages j i) (number_at stages n i) (runs i)) last
    stages_do s last no_stage j n from until runs child is f w p i l = absurd (omega (arith, l))
    stages_do s last (more_stage first final comb node rest) j n from until runs child is f w p zero l = does s last node j n from until (runs 0) (child 0) is.0 (f 0 (omega arith)) (w 0 (omega arith)) p.0
    stages_do s last (more_stage first final comb node rest) j n from until runs child is f w p (suc i) l =
        stages_do s last rest (j + node_count node) (n + number_count node) from until (λ m. runs (suc m)) (λ m. child (suc m)) is.1 (λ m lt. f (suc m) (omega (arith, lt))) (λ m lt. w (suc m) (omega (arith, lt))) (moved s last rest (j + node_count node) (n + number_count node) 0 runs child p.1) i (omega (arith, l))

  pub trees_do : TreesDo core plan delays
  trees_do = does
