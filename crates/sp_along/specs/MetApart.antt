-- Two events of a run at one loop are as many groups apart as their groups are.
use Rattle.std.specs.Prelude.{◌≡◌, ℕ, ◌-◌, ◌≤◌, Bool, ℤ, List, [], slice_index_or}
use Rattle.sp_core.specs.Events.{At, core_moments}
use Rattle.sp_core.specs.History.{History}
use Rattle.sp_core.specs.Meeting.{in_loop, together}
use Rattle.sp_core.specs.PlainCore.{PlainCore}
use Rattle.sp_core.specs.Scope.{Loop, Reading, group_values}
use Rattle.sp_deps.specs.declared.access.LoopRange.{LoopRange}
use Rattle.sp_deps.specs.Groups.{AreGroupsOn}
use Rattle.sp_along.specs.MetGroups.{HaveSteps}
use Rattle.sp_along.specs.MetOrder.{EachTwo}
use Rattle.sp_along.specs.MetTraces.{loops_in, AreAtLoop}

-- the counters of both are those outside, the values of the loop's groups, and those inside of each; the second group isn't
-- the earlier one, and its values are so many groups on, whatever ranges have the loop's steps
pub record AreApart (loops : List At → List Loop) (p q : List At) (cs ds : List ℤ) (node g i : ℕ) (one_stage : Bool) : Type 0 where
  pub at_loop : AreAtLoop loops p q cs ds node g i one_stage
  pub in_order : g ≤ i
  pub apart : (ranges : List LoopRange) → HaveSteps ranges (loops at_loop.around) →
      AreGroupsOn ranges (slice_index_or (group_values (loops at_loop.around)) g []) (slice_index_or (group_values (loops at_loop.around)) i []) (i - g)

abbrev pub RunsAreApart : PlainCore → Type 0
RunsAreApart core =
    (reading : Reading) (h : History) →
    EachTwo (λ s t. (node g i : ℕ) (one_stage : Bool) → together core s.path t.path ≡ in_loop node g i one_stage → AreApart (loops_in reading core.root h) s.path t.path s.counters t.counters node g i one_stage) (core_moments core reading h)
