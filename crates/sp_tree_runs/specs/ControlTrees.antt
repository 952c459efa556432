-- Circuits of control over a tree of nodes: each node's part is put together of those of its parts, down to inner bodies, transfers
-- and lists of operations, of which it is asked that they do the runs that the timeline gives them.
use Rattle.std.specs.Prelude.{◌≡◌, ℕ, suc, ◌+◌, ◌<◌, true, false, List, length, map}
use Rattle.sp_netlist.specs.declared.parts.Child.{Child}
use Rattle.sp_netlist.specs.Signals.{Signals}
use Rattle.sp_gates.specs.Tested.{is_on}
use Rattle.sp_ctrl.specs.Runs.{RunsBranch, RunsFsm}
use Rattle.sp_sequence.specs.declared.part.Chain.{Chain}
use Rattle.sp_sequence.specs.declared.part.Member.{Member}
use Rattle.sp_sequence.specs.declared.part.Slot.{Slot}
use Rattle.sp_beats.specs.Beats.{RunsBeats}
use Rattle.sp_part_runs.specs.ControlBranches.{test_run}
use Rattle.sp_part_runs.specs.ControlMachines.{tests, nexts, first_run}
use Rattle.sp_part_runs.specs.ControlParts.{Tells, runs_of}
use Rattle.sp_part_runs.specs.SequencesChains.{Numbered, SaysWanted, turn}
use Rattle.sp_part_runs.specs.SequencesPlaces.{stage_at as stage_in, sizes, AreArranged}
use Rattle.sp_part_runs.specs.SequencesRuns.{shape_of}
use Rattle.sp_part_runs.specs.BeatsLaws.{TellsMore}
use Rattle.sp_part_runs.specs.BeatsRuns.{slot_cycle, slot_found, groups_in}
use Rattle.sp_core.specs.Numbering.{counters_size, node_count, number_count}
use Rattle.sp_core.specs.PlainCore.{PlainOp, PlainCounter, PlainNode, PlainStages, inner, outer, fsm, branch, load, store, sparse, no_stage, more_stage, PlainCore}
use Rattle.sp_plan.specs.PlainPlan.{PlainPlan, node_plan}
use Rattle.sp_plan.specs.Validity.{stage_count}
use Rattle.sp_machine.specs.Timeline.{slots_of}
use Rattle.sp_machine.specs.Transfers.{Delays}
use Rattle.sp_node_runs.specs.Runs.{Placed, side_runs, body_runs, stage_runs}
use Rattle.sp_node_runs.specs.ControlBeating.{beats_ran}
use Rattle.sp_node_runs.specs.ControlLaws.{Does}
use Rattle.sp_node_runs.specs.ControlRuns.{rans, branch_of, machine_of}

module _ (core : PlainCore) (plan : PlainPlan) (delays : Delays) (s : Signals) (last : ℕ) where
  -- a branch of a test and two sides
  pub record BranchPart (First Second : Child → Type 0) (k n : ℕ) (ops : List PlainOp) (first second : PlainNode) (runs : List Placed) (whole : Child) : Type 0 where
    pub test : Child
    pub tested : ℕ
    pub chosen : Child
    pub left : Child
    pub circuit : RunsBranch s whole.start test tested chosen left whole.done
    pub does : Does s test (runs_of (map (λ r. test_run (branch_of core plan delays k n ops first second r)) runs)) last
    pub tells : Tells (is_on s test.start) (is_on s tested) (map (λ r. test_run (branch_of core plan delays k n ops first second r)) runs) last
    pub one : First chosen
    pub other : Second left

  -- an FSM of three lists and a body
  pub record MachinePart (Body : Child → Type 0) (k n : ℕ) (start ops : List PlainOp) (node : PlainNode) (after : List PlainOp) (runs : List Placed) (whole : Child) : Type 0 where
    pub first : Child
    pub test : Child
    pub tested : ℕ
    pub body : Child
    pub next : Child
    pub circuit : RunsFsm s whole.start first test tested body next whole.done
    pub begins : Does s first (map (λ r. first_run (machine_of core plan delays k n start ops node after r)) runs) last
    pub does : Does s test (runs_of (tests (map (machine_of core plan delays k n start ops node after) runs))) last
    pub tells : Tells (is_on s test.start) (is_on s tested) (tests (map (machine_of core plan delays k n start ops node after) runs)) last
    pub goes : Body body
    pub steps : Does s next (nexts (map (machine_of core plan delays k n start ops node after) runs)) last

  -- a loop in beats of stages, each by its number
  pub record IsMember (child : (stage : ℕ) → Child) (k n : ℕ) (counters : List PlainCounter) (owned : List ℕ) (stages : PlainStages) (places : List (List (List ℕ))) (shape : List (List ℕ)) (runs : List Placed) (x j i : ℕ) (m : Member) : Type 0 where
    pub stage : stage_in places x j i < stage_count stages
    pub part : m.child ≡ child (stage_in places x j i)
    pub wanted : SaysWanted s m.wanted (turn (slot_cycle shape x) (λ q. slot_found x q j) i) (λ q. slot_found x q j i) (groups_in (map (beats_ran core plan delays k n counters owned stages places) runs)) last

  abbrev pub AreMembers : (child : (stage : ℕ) → Child) → (k n : ℕ) → List PlainCounter → List ℕ → PlainStages → List (List (List ℕ)) → List Placed → List Slot → Type 0
  AreMembers child k n counters owned stages places runs slots =
      Numbered (λ x (slot : Slot). Numbered (λ j (c : Chain). Numbered (λ i m. IsMember child k n counters owned stages places (shape_of slots) runs x j i m) 0 c.members.items) 0 slot.chains.items) 0 slots

  pub record LoopPart (Stages : ((stage : ℕ) → Child) → Type 0) (k n : ℕ) (counters : List PlainCounter) (owned : List ℕ) (stages : PlainStages) (runs : List Placed) (whole : Child) : Type 0 where
    pub more : ℕ
    pub step : ℕ
    pub slots : List Slot
    pub firsts : List ℕ
    pub places : List (List (List ℕ))
    pub child : (stage : ℕ) → Child
    pub circuit : RunsBeats s (is_on s whole.start) (is_on s more) (is_on s step) slots firsts (is_on s whole.done)
    pub arranged : AreArranged places (slots_of (node_plan plan k))
    pub size : length (slots_of (node_plan plan k)) ≡ stage_count stages
    pub shaped : shape_of slots ≡ sizes places
    pub tells : TellsMore s more slots last (map (beats_ran core plan delays k n counters owned stages places) runs)
    pub members : AreMembers child k n counters owned stages places runs slots
    pub parts : Stages child

  -- by the numbers of a node and of its first operation; the parts that have no parts do the runs of their nodes
  abbrev mutual
    pub Controls : PlainNode → (node n : ℕ) → List Placed → Child → Type 0
    Controls (branch ops first second) k n runs c =
        BranchPart (Controls first (suc k) (n + length ops) (side_runs core plan delays ops k true runs)) (Controls second (suc k + node_count first) (n + (length ops + number_count first)) (side_runs core plan delays ops k false runs)) k n ops first second runs c
    Controls (fsm start state ops node after) k n runs c =
        MachinePart (Controls node (suc k) (n + (length start + length ops)) (body_runs core plan delays start ops after node k n runs)) k n start ops node after runs c
    Controls (outer counters style owned stages) k n runs c =
        LoopPart (λ child. StagesControl stages (suc k) (n + counters_size counters) 0 (λ s. stage_runs core plan delays counters owned stages k n s runs) child) k n counters owned stages runs c
    Controls (inner counters owned ops comb) k n runs c = Does s c (rans core plan delays (inner counters owned ops comb) k n runs) last
    Controls (load r m spans) k n runs c = Does s c (rans core plan delays (load r m spans) k n runs) last
    Controls (store r m spans) k n runs c = Does s c (rans core plan delays (store r m spans) k n runs) last
    Controls (sparse kind r m places spans count par) k n runs c = Does s c (rans core plan delays (sparse kind r m places spans count par) k n runs) last

    pub StagesControl : PlainStages → (node n stage : ℕ) → (runs : (stage : ℕ) → List Placed) → (child : (stage : ℕ) → Child) → Type 0
    StagesControl no_stage j n i runs child = Unit {0}
    StagesControl (more_stage first last comb node rest) j n i runs child = Controls node j n (runs i) (child i) × StagesControl rest (j + node_count node) (n + number_count node) (suc i) runs child
