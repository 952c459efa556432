-- When the parts of a circuit of control over a tree are started, and over.
use Rattle.std.specs.Prelude.{ℕ, suc, ◌+◌, ◌≤◌, true, false, List, length, map}
use Rattle.sp_netlist.specs.declared.parts.Child.{Child}
use Rattle.sp_netlist.specs.Signals.{Signals}
use Rattle.sp_gates.specs.Tested.{is_on}
use Rattle.sp_sequence.specs.declared.part.Slot.{Slot}
use Rattle.sp_part_runs.specs.BodiesRuns.{IsOnAt}
use Rattle.sp_part_runs.specs.ControlBranches.{test_run}
use Rattle.sp_part_runs.specs.ControlMachines.{tests, nexts, first_run}
use Rattle.sp_part_runs.specs.ControlParts.{Ends, runs_of}
use Rattle.sp_part_runs.specs.SequencesChains.{Numbered, At}
use Rattle.sp_part_runs.specs.SequencesRuns.{shape_of}
use Rattle.sp_part_runs.specs.BeatsRuns.{BeatsRan, slot_cycle, groups_in, steps_in, step_cycle}
use Rattle.sp_core.specs.Numbering.{counters_size, node_count, number_count}
use Rattle.sp_core.specs.PlainCore.{PlainNode, PlainStages, inner, outer, fsm, branch, load, store, sparse, no_stage, more_stage, PlainCore}
use Rattle.sp_plan.specs.PlainPlan.{PlainPlan}
use Rattle.sp_machine.specs.Transfers.{Delays}
use Rattle.sp_overlap.specs.Whole.{IsTimed}
use Rattle.sp_node_runs.specs.Runs.{Placed, AreWithin, side_runs, body_runs, stage_runs}
use Rattle.sp_node_runs.specs.ControlBeating.{beats_ran}
use Rattle.sp_node_runs.specs.ControlLaws.{IsStarted}
use Rattle.sp_node_runs.specs.ControlRuns.{rans, branch_of, machine_of}
use Rattle.sp_node_runs.specs.FitsLaws.{AllFit}
use Rattle.sp_tree_runs.specs.ControlTrees.{Controls, StagesControl}

module _ (core : PlainCore) (plan : PlainPlan) (delays : Delays) (s : Signals) (last t : ℕ) where
  -- up to a cycle the part of a node is started in the cycles of its runs, and done where they are over, and never else
  pub record GoesAsTold (node : PlainNode) (k n : ℕ) (runs : List Placed) (c : Child) : Type 0 where
    pub starts : IsStarted s c.start (rans core plan delays node k n runs) t
    pub ends : IsOnAt (is_on s c.done) (Ends (rans core plan delays node k n runs)) t

  -- a loop steps in the first cycle of each beat and at the end of each run, and its slots have their first cycles where they get groups
  pub record StepsAsTold (step : ℕ) (slots : List Slot) (firsts : List ℕ) (runs : List BeatsRan) : Type 0 where
    pub steps : IsOnAt (is_on s step) (At (step_cycle (shape_of slots)) (steps_in (shape_of slots) runs)) t
    pub first_cycles : Numbered (λ x first. IsOnAt (is_on s first) (At (slot_cycle (shape_of slots) x) (groups_in runs)) t) 0 firsts

  -- so are all parts of the tree, and the lists of operations are started where the timeline says
  abbrev mutual
    pub AllGo : (node : PlainNode) (k n : ℕ) (runs : List Placed) (c : Child) → Controls core plan delays s last node k n runs c → Type 0
    AllGo (branch ops first second) k n runs c w =
        GoesAsTold (branch ops first second) k n runs c × IsStarted s w.test.start (runs_of (map (λ r. test_run (branch_of core plan delays k n ops first second r)) runs)) t
        × AllGo first (suc k) (n + length ops) (side_runs core plan delays ops k true runs) w.chosen w.one
        × AllGo second (suc k + node_count first) (n + (length ops + number_count first)) (side_runs core plan delays ops k false runs) w.left w.other
    AllGo (fsm start state ops node after) k n runs c w =
        GoesAsTold (fsm start state ops node after) k n runs c × IsStarted s w.first.start (map (λ r. first_run (machine_of core plan delays k n start ops node after r)) runs) t
        × IsStarted s w.test.start (runs_of (tests (map (machine_of core plan delays k n start ops node after) runs))) t
        × IsStarted s w.next.start (nexts (map (machine_of core plan delays k n start ops node after) runs)) t
        × AllGo node (suc k) (n + (length start + length ops)) (body_runs core plan delays start ops after node k n runs) w.body w.goes
    AllGo (outer counters style owned stages) k n runs c w =
        GoesAsTold (outer counters style owned stages) k n runs c × StepsAsTold w.step w.slots w.firsts (map (beats_ran core plan delays k n counters owned stages w.places) runs)
        × StagesGo stages (suc k) (n + counters_size counters) 0 (λ i. stage_runs core plan delays counters owned stages k n i runs) w.child w.parts
    AllGo (inner counters owned ops comb) k n runs c w = GoesAsTold (inner counters owned ops comb) k n runs c
    AllGo (load r m spans) k n runs c w = GoesAsTold (load r m spans) k n runs c
    AllGo (store r m spans) k n runs c w = GoesAsTold (store r m spans) k n runs c
    AllGo (sparse kind r m places spans count par) k n runs c w = GoesAsTold (sparse kind r m places spans count par) k n runs c

    pub StagesGo : (stages : PlainStages) (j n i : ℕ) (runs : (stage : ℕ) → List Placed) (child : (stage : ℕ) → Child) → StagesControl core plan delays s last stages j n i runs child → Type 0
    StagesGo no_stage j n i runs child w = Unit {0}
    StagesGo (more_stage first final comb node rest) j n i runs child w = AllGo node j n (runs i) (child i) w.0 × StagesGo rest (j + node_count node) (n + number_count node) (suc i) runs child w.1

-- where the whole is started in the cycles of its runs, up to a cycle, so is each part of it
abbrev pub TreesGo : PlainCore → PlainPlan → Delays → Type 0
TreesGo core plan delays =
    (s : Signals) (last : ℕ) (node : PlainNode) (k n from until : ℕ) (runs : List Placed) (c : Child) → IsTimed node → AllFit core plan delays node runs → AreWithin core plan delays node k n from until runs
    → (w : Controls core plan delays s last node k n runs c) → (t : ℕ) → t ≤ last → IsStarted s c.start (rans core plan delays node k n runs) t → AllGo core plan delays s last t node k n runs c w
