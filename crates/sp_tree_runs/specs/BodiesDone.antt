-- What was done in a run of a node, at all depths: in each list the entries are what its operations did, in the scope of the counters
-- around it; tests have the word by which the run went on, and a stage is left out where none of its lanes has an iteration.
use Rattle.std.specs.Prelude.{◌≡◌, ℕ, ◌==◌, Bool, true, false, ℤ, List, [], ◌∷◌}
use Rattle.std.specs.List.{AllZip}
use Rattle.sp_core.specs.History.{Bounds, Taken, one, both, last_word, History, Groups, Runs, Turns, inner_ran, outer_ran, fsm_ran, branch_ran, moved, no_group, more_group, no_run, masked_run, more_run, no_turn, more_turn}
use Rattle.sp_core.specs.PlainCore.{PlainOp, PlainCounter, PlainSpan, single, range, PlainNode, PlainStages, inner, outer, fsm, branch, load, store, sparse, no_stage, more_stage, PlainCore}
use Rattle.sp_core.specs.Scope.{Loop, Reading, Scope, loops_of, group_values, is_live, is_some_live, in_group}
use Rattle.sp_core.specs.Sequential.{run}
use Rattle.sp_core.specs.Step.{went}
use Rattle.sp_core.specs.Store.{Store}
use Rattle.sp_overlap.specs.Whole.{IsTimed}
use Rattle.sp_part_runs.specs.ActsEntries.{AreEntries}

-- of the bounds of a counter, and of a span of a slice
abbrev pub BoundsDone : Scope → PlainCounter → Bounds → Type 0
BoundsDone scope c b = AreEntries scope c.from b.from × AreEntries scope c.until b.until

abbrev pub SpanDone : Scope → PlainSpan → Taken → Type 0
SpanDone scope (single ops) (one es) = AreEntries scope ops es
SpanDone scope (range a b) (both es fs) = AreEntries scope a es × AreEntries scope b fs
SpanDone scope _ _ = ⊥

module _ (reading : Reading) where
  abbrev mutual
    pub AllDone : PlainNode → Scope → History → Type 0
    AllDone (inner counters owned ops comb) scope (inner_ran bs counts groups) =
        AllZip (BoundsDone scope) counters bs × AllZip (λ v es. AreEntries (in_group scope (loops_of reading counters bs) v) ops es) (group_values (loops_of reading counters bs)) groups
    AllDone (outer counters style owned stages) scope (outer_ran bs counts groups) =
        AllZip (BoundsDone scope) counters bs × GroupsDone stages scope (loops_of reading counters bs) (group_values (loops_of reading counters bs)) groups
    AllDone (fsm start state test body next) scope (fsm_ran first ts last) = AreEntries scope start first × TurnsDone test body next scope ts × AreEntries scope test last × ((last_word last == 1) ≡ false)
    AllDone (branch test first second) scope (branch_ran es true h) = AreEntries scope test es × ((last_word es == 1) ≡ true) × AllDone first scope h
    AllDone (branch test first second) scope (branch_ran es false h) = AreEntries scope test es × ((last_word es == 1) ≡ false) × AllDone second scope h
    AllDone (load r m spans) scope (moved ts ws) = AllZip (SpanDone scope) spans ts
    AllDone (store r m spans) scope (moved ts ws) = AllZip (SpanDone scope) spans ts
    AllDone (sparse kind r m index spans count par) scope h = Unit {0}
    AllDone _ scope _ = ⊥

    -- the groups of a loop
    pub GroupsDone : PlainStages → Scope → List Loop → List (List ℤ) → Groups → Type 0
    GroupsDone stages scope loops (v ∷ values) (more_group row rest) = RunsDone stages (is_live loops v) (in_group scope loops v) row × GroupsDone stages scope loops values rest
    GroupsDone stages scope loops [] no_group = Unit {0}
    GroupsDone stages scope loops _ _ = ⊥

    pub RunsDone : PlainStages → (live : ℕ → Bool) → Scope → Runs → Type 0
    RunsDone no_stage live scope no_run = Unit {0}
    RunsDone (more_stage first last comb node rest) live scope (more_run h hs) = (is_some_live live first last ≡ true) × AllDone node scope h × RunsDone rest live scope hs
    RunsDone (more_stage first last comb node rest) live scope (masked_run hs) = (is_some_live live first last ≡ false) × RunsDone rest live scope hs
    RunsDone _ live scope _ = ⊥

    pub TurnsDone : (test : List PlainOp) → PlainNode → (next : List PlainOp) → Scope → Turns → Type 0
    TurnsDone test body next scope no_turn = Unit {0}
    TurnsDone test body next scope (more_turn es h ns rest) = (AreEntries scope test es × ((last_word es == 1) ≡ true) × AllDone body scope h × AreEntries scope next ns) × TurnsDone test body next scope rest

-- so it is in each run of a node without `Stream` blocks and sparse transfers, from any store
abbrev pub RunsAreDone : Type 0
RunsAreDone = (core : PlainCore) (reading : Reading) (turns : ℕ) (node : PlainNode) (scope : Scope) (s t : Store) (h : History) → IsTimed node → run core reading turns node scope s ≡ went h t → AllDone reading node scope h
