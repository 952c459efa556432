-- What the transfers of a tree of nodes move in a run, as a statement.
use Rattle.std.specs.Prelude.{◌≡◌, ℕ, true, false, List, [], ◌∷◌, length}
use Rattle.std.specs.List.{Contains}
use Rattle.sp_words.specs.declared.kind.Style.{Style}
use Rattle.sp_core.specs.Around.{Around}
use Rattle.sp_core.specs.Declarations.{dims, dram_number}
use Rattle.sp_core.specs.History.{History, Groups, Runs, Turns, outer_ran, fsm_ran, branch_ran, moved, no_group, more_group, masked_run, more_run, no_turn, more_turn}
use Rattle.sp_core.specs.Invariant.{IsRight}
use Rattle.sp_core.specs.MemoryRules.{are_memories_right}
use Rattle.sp_core.specs.PlainCore.{PlainOp, PlainCounter, PlainSpan, PlainNode, PlainStages, outer, fsm, branch, load, store, more_stage, PlainCore}
use Rattle.sp_core.specs.Scope.{Reading, Scope}
use Rattle.sp_core.specs.Sequential.{run}
use Rattle.sp_core.specs.Step.{went}
use Rattle.sp_core.specs.Store.{Store}
use Rattle.sp_core.specs.Transfers.{lengths, has_none, are_parts_inside}
use Rattle.sp_plan.specs.PlainPlan.{PlainPlan}
use Rattle.sp_machine.specs.Transfers.{Delays}
use Rattle.sp_overlap.specs.Whole.{IsTimed}
use Rattle.sp_node_runs.specs.Runs.{Placed, side_runs, body_runs, stage_at, stage_runs}
use Rattle.sp_node_runs.specs.FitsLaws.{AllFit}
use Rattle.sp_transfer_runs.specs.Runs.{taken_in, words_in, DidSlice}
use Rattle.sp_transfer_runs.specs.Words.{parts_of, count_of}

-- a transfer moved a word for each place of its slice, which is inside of a DRAM of these dimensions where it has one
pub record MovesAll (size : List ℕ) (h : History) : Type 0 where
  pub is : h ≡ moved (taken_in h) (words_in h)
  pub each : length (words_in h) ≡ count_of (taken_in h)
  pub inside : has_none (lengths (parts_of (taken_in h))) ≡ false → are_parts_inside size (parts_of (taken_in h)) ≡ true

-- so did each transfer of a node, at all depths
module _ (core : PlainCore) where
  abbrev mutual
    pub AllMoved : PlainNode → History → Type 0
    AllMoved (outer counters style owned stages) (outer_ran bs counts groups) = GroupsMoved stages groups
    AllMoved (fsm start state test body next) (fsm_ran first turns last) = TurnsMoved body turns
    AllMoved (branch test first second) (branch_ran es true h) = AllMoved first h
    AllMoved (branch test first second) (branch_ran es false h) = AllMoved second h
    AllMoved (load r m spans) h = MovesAll (dims core (dram_number core r)) h
    AllMoved (store r m spans) h = MovesAll (dims core (dram_number core r)) h
    AllMoved _ h = Unit {0}

    pub GroupsMoved : PlainStages → Groups → Type 0
    GroupsMoved stages no_group = Unit {0}
    GroupsMoved stages (more_group row rest) = RunsMoved stages row × GroupsMoved stages rest

    pub RunsMoved : PlainStages → Runs → Type 0
    RunsMoved (more_stage first last comb node rest) (more_run h hs) = AllMoved node h × RunsMoved rest hs
    RunsMoved (more_stage first last comb node rest) (masked_run hs) = RunsMoved rest hs
    RunsMoved _ _ = Unit {0}

    pub TurnsMoved : PlainNode → Turns → Type 0
    TurnsMoved body no_turn = Unit {0}
    TurnsMoved body (more_turn es h ns rest) = AllMoved body h × TurnsMoved body rest

  -- in each of some runs
  abbrev pub EachMoved : PlainNode → List Placed → Type 0
  EachMoved node [] = Unit {0}
  EachMoved node (r ∷ runs) = AllMoved node r.history × EachMoved node runs

-- So it is in each run of a node without `Stream` blocks and sparse transfers, and in the runs of its parts; and then each run of a
-- transfer whose words fit took a slice of its DRAM.
pub record TransfersMoveAll (core : PlainCore) (plan : PlainPlan) (delays : Delays) : Type 0 where
  pub in_run : (reading : Reading) (turns : ℕ) (node : PlainNode) (scope : Scope) (s t : Store) (h : History) → IsTimed node → run core reading turns node scope s ≡ went h t → AllMoved core node h
  pub sides : (k : ℕ) (test : List PlainOp) (first second : PlainNode) (runs : List Placed) → EachMoved core (branch test first second) runs → EachMoved core first (side_runs core plan delays test k true runs) × EachMoved core second (side_runs core plan delays test k false runs)
  pub bodies : (k n : ℕ) (start : List PlainOp) (state : ℕ) (test : List PlainOp) (body : PlainNode) (next : List PlainOp) (runs : List Placed) → EachMoved core (fsm start state test body next) runs → EachMoved core body (body_runs core plan delays start test next body k n runs)
  pub stages : (k n : ℕ) (counters : List PlainCounter) (style : Style) (owned : List ℕ) (stages : PlainStages) (s : ℕ) (runs : List Placed) → EachMoved core (outer counters style owned stages) runs → EachMoved core (stage_at stages s) (stage_runs core plan delays counters owned stages k n s runs)
  pub loads : (around : Around) (earlier : List ℕ) (r m : ℕ) (spans : List PlainSpan) (runs : List Placed) → are_memories_right core ≡ true → IsRight core around earlier (load r m spans) → AllFit core plan delays (load r m spans) runs → EachMoved core (load r m spans) runs
      → (q : Placed) → Contains runs q → DidSlice (dims core (dram_number core r)) q.history
  pub stores : (around : Around) (earlier : List ℕ) (r m : ℕ) (spans : List PlainSpan) (runs : List Placed) → are_memories_right core ≡ true → IsRight core around earlier (store r m spans) → AllFit core plan delays (store r m spans) runs → EachMoved core (store r m spans) runs
      → (q : Placed) → Contains runs q → DidSlice (dims core (dram_number core r)) q.history
