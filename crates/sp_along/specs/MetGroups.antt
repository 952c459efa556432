-- The values of a loop's counters in its groups, as steps from one group to a later one.
use Rattle.std.specs.Prelude.{◌≡◌, ℕ, ◌+◌, ◌<◌, ◌≤◌, List, [], ◌∷◌, length, map, slice_index_or}
use Rattle.std.specs.List.{All}
use Rattle.sp_core.specs.History.{Bounds}
use Rattle.sp_core.specs.PlainCore.{PlainCounter, PlainMem}
use Rattle.sp_core.specs.Scope.{Loop, in_lanes, loops_of, group_values}
use Rattle.sp_deps.specs.declared.access.LoopRange.{LoopRange}
use Rattle.sp_deps.specs.Access.{advance}
use Rattle.sp_deps.specs.Groups.{AreGroupsOn}
use Rattle.sp_meets.specs.Around.{loop_of}
use Rattle.sp_patterns.specs.declared.place.CounterPlace.{CounterPlace}

-- a counter of a run goes on by as much from group to group as its range says, which is some steps
abbrev pub HasSteps : LoopRange → Loop → Type 0
HasSteps range loop = (loop.advance ≡ advance range) × (1 ≤ range.par)

abbrev pub HaveSteps : List LoopRange → List Loop → Type 0
HaveSteps [] [] = Unit {0}
HaveSteps (r ∷ ranges) (l ∷ loops) = HasSteps r l × HaveSteps ranges loops
HaveSteps _ _ = ⊥

-- the counters of a controller have, in lanes, the steps of their ranges
abbrev pub CountersHaveSteps : Type 0
CountersHaveSteps =
    (mems : List PlainMem) (places : List CounterPlace) (counters : List PlainCounter) (bs : List Bounds) → length bs ≡ length counters →
    All (λ (c : PlainCounter). 1 ≤ c.par) counters → HaveSteps (map (loop_of mems places) counters) (loops_of in_lanes counters bs)

-- of the groups of a loop, the one that stands k places after another is k groups on
abbrev pub GroupsGoOn : Type 0
GroupsGoOn =
    (ranges : List LoopRange) (loops : List Loop) (g k i : ℕ) → HaveSteps ranges loops → g + k ≡ i → i < length (group_values loops) →
    AreGroupsOn ranges (slice_index_or (group_values loops) g []) (slice_index_or (group_values loops) i []) k
