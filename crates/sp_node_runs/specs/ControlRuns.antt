-- Runs of nodes, in the cycles of the timeline, as runs of parts of control.
use Rattle.std.specs.Prelude.{ℕ, suc, ◌+◌, Bool, true, false, List, [], ◌∷◌, length, map}
use Rattle.sp_core.specs.History.{History, Turns, fsm_ran, branch_ran, no_turn, more_turn}
use Rattle.sp_core.specs.Numbering.{node_count, number_count}
use Rattle.sp_core.specs.PlainCore.{PlainOp, PlainNode, PlainCore}
use Rattle.sp_plan.specs.PlainPlan.{PlainPlan}
use Rattle.sp_machine.specs.Transfers.{Delays}
use Rattle.sp_part_runs.specs.ControlBranches.{BranchRan}
use Rattle.sp_part_runs.specs.ControlMachines.{MachineRan, Turn}
use Rattle.sp_part_runs.specs.ControlParts.{Ran}
use Rattle.sp_node_runs.specs.Runs.{Placed, told, list_took, taken, turn_of}

module _ (core : PlainCore) (plan : PlainPlan) (delays : Delays) where
  abbrev pub ran_of : PlainNode → (node n : ℕ) → Placed → Ran
  ran_of node k n r = record { cycle = r.cycle; took = (told core plan delays node k n r).took }

  abbrev pub rans : PlainNode → (node n : ℕ) → List Placed → List Ran
  rans node k n runs = map (ran_of node k n) runs

  -- of a branch, whose test takes as long as its operations, and then the side that was taken
  abbrev pub IsBranch : History → Type 0
  IsBranch (branch_ran es side h) = Unit {0}
  IsBranch h = ⊥

  abbrev pub AreBranches : List Placed → Type 0
  AreBranches [] = Unit {0}
  AreBranches (r ∷ runs) = IsBranch r.history × AreBranches runs

  abbrev pub side_taken : History → Bool
  side_taken (branch_ran es side h) = side
  side_taken h = false

  module _ (k n : ℕ) (test : List PlainOp) (first second : PlainNode) where
    abbrev pub side_took : Placed → History → ℕ
    side_took r (branch_ran es true h) = (told core plan delays first (suc k) (n + length test) (taken core plan delays test k r h)).took
    side_took r (branch_ran es false h) = (told core plan delays second (suc k + node_count first) (n + (length test + number_count first)) (taken core plan delays test k r h)).took
    side_took r h = 0

    abbrev pub branch_of : Placed → BranchRan
    branch_of r = record { cycle = r.cycle; test = list_took core plan delays test; taken = side_taken r.history; part = side_took r r.history }

  -- of an FSM, turn after turn
  abbrev pub IsMachine : History → Type 0
  IsMachine (fsm_ran first turns last) = Unit {0}
  IsMachine h = ⊥

  abbrev pub AreMachines : List Placed → Type 0
  AreMachines [] = Unit {0}
  AreMachines (r ∷ runs) = IsMachine r.history × AreMachines runs

  module _ (k n : ℕ) (start test : List PlainOp) (body : PlainNode) (next : List PlainOp) where
    abbrev pub turns_of : Placed → (turn : ℕ) → Turns → List Turn
    turns_of r t no_turn = []
    turns_of r t (more_turn es h ns rest) =
        record { test = list_took core plan delays test; body = (told core plan delays body (suc k) (n + (length start + length test)) (turn_of core plan delays start test next body k n r t 0 h)).took; next = list_took core plan delays next } ∷ turns_of r (suc t) rest

    abbrev pub turns_in : Placed → History → List Turn
    turns_in r (fsm_ran first turns last) = turns_of r 0 turns
    turns_in r h = []

    abbrev pub machine_of : Placed → MachineRan
    machine_of r = record { cycle = r.cycle; first = list_took core plan delays start; turns = turns_in r r.history; last = list_took core plan delays test }
