-- Parts of trees of control are started where the timeline says.
use Rattle.std.proofs.Common.{ℕ, suc, ◌+◌, ◌<◌, ◌≤◌, true, false, List, length, subst, arith}
use Rattle.sp_netlist.specs.declared.parts.Child.{Child}
use Rattle.sp_netlist.specs.Signals.{Signals}
use Rattle.sp_sequence.specs.declared.part.Chain.{Chain}
use Rattle.sp_sequence.specs.declared.part.Member.{Member}
use Rattle.sp_sequence.specs.declared.part.Slot.{Slot}
use Rattle.sp_part_runs.specs.SequencesChains.{Numbered}
use Rattle.sp_part_runs.specs.SequencesPlaces.{stage_at as stage_in}
use Rattle.sp_part_runs.specs.SequencesRuns.{shape_of}
use Rattle.sp_core.specs.Numbering.{counters_size, node_count, number_count}
use Rattle.sp_core.specs.PlainCore.{PlainNode, PlainStages, inner, outer, fsm, branch, load, store, sparse, no_stage, more_stage, PlainCore}
use Rattle.sp_plan.specs.PlainPlan.{PlainPlan, node_plan}
use Rattle.sp_plan.specs.Validity.{stage_count}
use Rattle.sp_machine.specs.Timeline.{slots_of}
use Rattle.sp_machine.specs.Transfers.{Delays}
use Rattle.sp_overlap.specs.Whole.{IsTimed, AreTimed}
use Rattle.sp_node_runs.specs.RunsLaws.{SidesComeInTurn, BodiesComeInTurn, StagesComeInTurn}
use Rattle.sp_node_runs.specs.Runs.{Placed, AreWithin, side_runs, body_runs, stage_at, node_at, number_at, stage_runs}
use Rattle.sp_node_runs.specs.ControlBeating.{stage_rans, LoopsOfNodesWork}
use Rattle.sp_node_runs.specs.ControlLaws.{IsStarted, BranchesOfNodesWork, MachinesOfNodesWork}
use Rattle.sp_node_runs.specs.ControlRuns.{rans}
use Rattle.sp_node_runs.specs.FitsLaws.{AllFit, PartsFit, StagesTakeTime}
use Rattle.sp_tree_runs.specs.ControlStarting.{AllGo, StagesGo, TreesGo}
use Rattle.sp_tree_runs.specs.ControlTrees.{Controls, StagesControl, IsMember}
use Rattle.sp_tree_runs.proofs.ControlPlaces.{numbered_both, numbered_step, at_place, has_place}
use Rattle.sp_tree_runs.proofs.ControlTrees.{members_do, moved, does, stages_do}

module _ (core : PlainCore) (plan : PlainPlan) (delays : Delays) (branches : BranchesOfNodesWork core plan delays) (machines : MachinesOfNodesWork core plan delays) (loops : LoopsOfNodesWork core plan delays) (fits : PartsFit core plan delays) (takes : StagesTakeTime core plan delays)
    (sides : SidesComeInTurn core plan delays) (bodies : BodiesComeInTurn core plan delays) (stages_turn : StagesComeInTurn core plan delays) where
  -- later stages by their own numbers
  moved_back : (s : Signals) (last t : ℕ) (stages : PlainStages) (j n i : ℕ) (runs : ℕ → List Placed) (child : ℕ → Child) (w : StagesControl core plan delays s last stages j n (suc i) runs child)
      → StagesGo core plan delays s last t stages j n i (λ m. runs (suc m)) (λ m. child (suc m)) (moved core plan delays branches machines loops fits takes sides bodies stages_turn s last stages j n i runs child w) → StagesGo core plan delays s last t stages j n (suc i) runs child w
  moved_back s last t no_stage j n i runs child w h = tt
  moved_back s last t (more_stage first final comb node rest) j n i runs child w h = (h.0, moved_back s last t rest (j + node_count node) (n + number_count node) (suc i) runs child w.1 h.1)

  mutual
    goes : (s : Signals) (last : ℕ) (node : PlainNode) (k n from until : ℕ) (runs : List Placed) (c : Child) → IsTimed node → AllFit core plan delays node runs → AreWithin core plan delays node k n from until runs
        → (w : Controls core plan delays s last node k n runs c) → (t : ℕ) → t ≤ last → IsStarted s c.start (rans core plan delays node k n runs) t → AllGo core plan delays s last t node k n runs c w
    goes s last (branch ops first second) k n from until runs c is f w p t le started =
        let parts = fits.branches k ops first second runs f in
        let turns = sides k n ops first second from until runs w in
        let g = branches s c.start p.test p.tested p.chosen p.left c.done last k n ops first second runs p.circuit parts.0 p.does p.tells
        (does core plan delays branches machines loops fits takes sides bodies stages_turn s last first (suc k) (n + length ops) from until (side_runs core plan delays ops k true runs) p.chosen is.0 parts.1 turns.0 p.one)
        (does core plan delays branches machines loops fits takes sides bodies stages_turn s last second (suc k + node_count first) (n + (length ops + number_count first)) from until (side_runs core plan delays ops k false runs) p.left is.1 parts.2 turns.1 p.other) t le started in (
          record { starts = started; ends = g.ends },
          g.tests,
          goes s last first (suc k) (n + length ops) from until (side_runs core plan delays ops k true runs) p.chosen is.0 parts.1 turns.0 p.one t le g.goes,
          goes s last second (suc k + node_count first) (n + (length ops + number_count first)) from until (side_runs core plan delays ops k false runs) p.left is.1 parts.2 turns.1 p.other t le g.turns,
        )
    goes s last (fsm start state ops node after) k n from until runs c is f w p t le started =
        let parts = fits.machines k n start state ops node after runs f in
        let turns = bodies k n start state ops node after from until runs w in
        let g = machines s c.start p.first p.test p.tested p.body p.next c.done last k n start state ops node after runs p.circuit parts.0 p.begins p.does p.tells
        (does core plan delays branches machines loops fits takes sides bodies stages_turn s last node (suc k) (n + (length start + length ops)) from until (body_runs core plan delays start ops after node k n runs) p.body is parts.1 turns p.goes) p.steps t le started in (
          record { starts = started; ends = g.ends },
          g.begins,
          g.tested,
          g.steps,
          goes s last node (suc k) (n + (length start + length ops)) from until (body_runs core plan delays start ops after node k n runs) p.body is parts.1 turns p.goes t le g.goes,
        )
    goes s last (outer counters style owned stages) k n from until runs c is f w p t le started =
        let parts = fits.outers k n counters style owned stages runs f in
        let g = loops s c.start p.more p.step p.slots p.firsts c.done last k n counters style owned stages p.places from until runs p.circuit parts.0 w p.arranged p.shaped
        (takes k n counters style owned stages p.places runs f is.1 p.arranged p.size) p.tells
        (members_do core plan delays branches machines loops fits takes sides bodies stages_turn s last p.child k n counters owned stages p.places runs p.slots
        (λ i l. stages_do core plan delays branches machines loops fits takes sides bodies stages_turn s last stages (suc k) (n + counters_size counters) from until (λ i. stage_runs core plan delays counters owned stages k n i runs) p.child is.1
        (λ i l. parts.1 i) (λ i l. stages_turn k n counters style owned stages i (let z = p.size in omega (arith, z, l)) from until runs w) p.parts i l) p.members) t le started in
        let Begun : ℕ → ℕ → ℕ → Type 0 = λ x j i. IsStarted s (p.child (stage_in p.places x j i)).start (stage_rans core plan delays k n counters owned stages p.places (stage_in p.places x j i) runs) t in
        let each = numbered_step _ (λ x (slot : Slot). Numbered (λ j (c : Chain). Numbered (λ i m. Begun x j i) 0 c.members.items) 0 slot.chains.items) 0 p.slots
        (λ x slot h. numbered_step _ (λ j (c : Chain). Numbered (λ i m. Begun x j i) 0 c.members.items) 0 slot.chains.items
        (λ j c h. numbered_step _ (λ i m. Begun x j i) 0 c.members.items
        (λ i m h. subst (λ (c : Child). IsStarted s c.start (stage_rans core plan delays k n counters owned stages p.places (stage_in p.places x j i) runs) t) h.1.part h.0)
        (numbered_both (λ i (m : Member). IsStarted s m.child.start (stage_rans core plan delays k n counters owned stages p.places (stage_in p.places x j i) runs) t) (λ i m. IsMember core plan delays s last p.child k n counters owned stages p.places (shape_of p.slots) runs x j i m) 0 c.members.items h.0 h.1))
        (numbered_both _ _ 0 slot.chains.items h.0 h.1))
        (numbered_both _ _ 0 p.slots g.starts p.members) in (
          record { starts = started; ends = g.ends },
          record { steps = g.steps; first_cycles = g.first_cycles },
          stages_go s last stages (suc k) (n + counters_size counters) from until (λ i. stage_runs core plan delays counters owned stages k n i runs) p.child is.1
              (λ i l. parts.1 i) (λ i l. stages_turn k n counters style owned stages i (let z = p.size in omega (arith, z, l)) from until runs w) p.parts t le
              (λ i l. let h = has_place p.places (slots_of (node_plan plan k)) p.arranged i (let z = p.size in omega (arith, z, l)) in
              subst (λ m. IsStarted s (p.child m).start (stage_rans core plan delays k n counters owned stages p.places m runs) t) h.is (at_place Begun p.slots p.places p.shaped each h.slot h.chain h.member h.place)),
        )
    goes s last (inner counters owned ops comb) k n from until runs c is f w p t le started = record { starts = started; ends = p t le started }
    goes s last (load r m spans) k n from until runs c is f w p t le started = record { starts = started; ends = p t le started }
    goes s last (store r m spans) k n from until runs c is f w p t le started = record { starts = started; ends = p t le started }
    goes s last (sparse kind r m places spans count par) k n from until runs c is f w p t le started = record { starts = started; ends = p t le started }

    stages_go : (s : Signals) (last : ℕ) (stages : PlainStages) (j n from until : ℕ) (runs : ℕ → List Placed) (child : ℕ → Child) → AreTimed stages
        → ((i : ℕ) → i < stage_count stages → AllFit core plan delays (stage_at stages i) (runs i))
        → ((i : ℕ) → i < stage_count stages → AreWithin core plan delays (stage_at stages i) (node_at stages j i) (number_at stages n i) from until (runs i))
        → (w : StagesControl core plan delays s last stages j n 0 runs child) → (t : ℕ) → t ≤ last
        → ((i : ℕ) → i < stage_count stages → IsStarted s (child i).start (rans core plan delays (stage_at stages i) (node_at stages j i) (number_at stages n i) (runs i)) t)
        → StagesGo core plan delays s last t stages j n 0 runs child w
    stages_go s last no_stage j n from until runs child is f w p t le started = tt
    stages_go s last (more_stage first final comb node rest) j n from until runs child is f w p t le started = (
      goes s last node j n from until (runs 0) (child 0) is.0 (f 0 (omega arith)) (w 0 (omega arith)) p.0 t le (started 0 (omega arith)),
      moved_back s last t rest (j + node_count node) (n + number_count node) 0 runs child p.1
          (stages_go s last rest (j + node_count node) (n + number_count node) from until (λ m. runs (suc m)) (λ m. child (suc m)) is.1 (λ m lt. f (suc m) (omega (arith, lt))) (λ m lt. w (suc m) (omega (arith, lt)))
          (moved core plan delays branches machines loops fits takes sides bodies stages_turn s last rest (j + node_count node) (n + number_count node) 0 runs child p.1) t le (λ m lt. started (suc m) (omega (arith, lt)))),
    )

  pub trees_go : TreesGo core plan delays
  trees_go = goes
