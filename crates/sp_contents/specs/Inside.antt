-- The slices of a run are inside of their DRAMs, so all that happens in it is allowed.
use Rattle.std.specs.Prelude.{◌≡◌, ℕ, ◌⊎◌, true, false, List, map}
use Rattle.sp_core.specs.Declarations.{dims, dram_number}
use Rattle.sp_core.specs.Events.{core_moments}
use Rattle.sp_core.specs.History.{Taken, History, Groups, Runs, Turns, outer_ran, fsm_ran, branch_ran, moved, no_group, more_group, masked_run, more_run, no_turn, more_turn}
use Rattle.sp_core.specs.Invariant.{IsCore}
use Rattle.sp_core.specs.PlainCore.{PlainNode, PlainStages, outer, fsm, branch, load, store, more_stage, PlainCore}
use Rattle.sp_core.specs.Scope.{in_lanes, Scope}
use Rattle.sp_core.specs.Sequential.{run}
use Rattle.sp_core.specs.Step.{went}
use Rattle.sp_core.specs.Store.{Store}
use Rattle.sp_core.specs.Transfers.{part_of, lengths, has_none, are_parts_inside}
use Rattle.sp_time.specs.Lists.{Each}
use Rattle.sp_overlap.specs.Whole.{IsTimed}
use Rattle.sp_contents.specs.Held.{AreLines}
use Rattle.sp_contents.specs.Steady.{IsAllowed}

module _ (core : PlainCore) where
  -- a slice that is taken has an empty range, or is inside of its DRAM
  abbrev pub IsSliceInside : (dram : ℕ) → List Taken → Type 0
  IsSliceInside r taken = (has_none (lengths (map part_of taken)) ≡ true) ⊎ (are_parts_inside (dims core (dram_number core r)) (map part_of taken) ≡ true)

  abbrev mutual
    pub IsInside : PlainNode → History → Type 0
    IsInside (outer counters style owned stages) (outer_ran bs counts groups) = AreInside stages groups
    IsInside (fsm start state test body next) (fsm_ran first ts last) = TurnsInside body ts
    IsInside (branch test first second) (branch_ran es true h) = IsInside first h
    IsInside (branch test first second) (branch_ran es false h) = IsInside second h
    IsInside (load r m spans) (moved taken words) = IsSliceInside r taken
    IsInside (store r m spans) (moved taken words) = IsSliceInside r taken
    IsInside _ _ = Unit {0}

    pub AreInside : PlainStages → Groups → Type 0
    AreInside stages no_group = Unit {0}
    AreInside stages (more_group runs rest) = RunsInside stages runs × AreInside stages rest

    pub RunsInside : PlainStages → Runs → Type 0
    RunsInside (more_stage first last comb node rest) (more_run h hs) = IsInside node h × RunsInside rest hs
    RunsInside (more_stage first last comb node rest) (masked_run hs) = RunsInside rest hs
    RunsInside _ _ = Unit {0}

    pub TurnsInside : PlainNode → Turns → Type 0
    TurnsInside body no_turn = Unit {0}
    TurnsInside body (more_turn es h ns rest) = IsInside body h × TurnsInside body rest

-- so it is in each run in lanes that ends
abbrev pub RunsAreInside : PlainCore → Type 0
RunsAreInside core =
    IsTimed core.root → (turns : ℕ) (scope : Scope) (s t : Store) (h : History) → run core in_lanes turns core.root scope s ≡ went h t → IsInside core core.root h

-- and all that happens is allowed, in a core whose line buffers have a row at least
abbrev pub RunsAreAllowed : PlainCore → Type 0
RunsAreAllowed core = IsCore core → IsTimed core.root → AreLines core × ((h : History) → IsInside core core.root h → Each (IsAllowed core) (core_moments core in_lanes h))
