-- A law of an inner body under counters, as a statement.
use Rattle.std.specs.Prelude.{◌≡◌, ℕ, ◌<◌, ◌≤◌, Bool, true, false, List, length}
use Rattle.sp_netlist.specs.Signals.{Signals}
use Rattle.sp_gates.specs.Tested.{is_on}
use Rattle.sp_core.specs.Scope.{Loop, group_values}
use Rattle.sp_counters.specs.declared.part.Counters.{Counters}
use Rattle.sp_counters.specs.declared.part.Counted.{Counted}
use Rattle.sp_counters.specs.Counting.{CountsGroups}
use Rattle.sp_counters.specs.Laws.{AreLoopsAt, AreAtGroup}
use Rattle.sp_pipe.specs.Issues.{IssuesAll}
use Rattle.sp_pipe.specs.Laws.{issue_cycle, RunsInTime}

-- A body under counters that are started with it in a cycle, and not again up to the turn after its last group, issues each
-- group of the loop in its cycle; there the counters have the group's words, and the lanes' masks tell which have an iteration.
abbrev pub CountedBodiesRunInTime : Type 0
CountedBodiesRunInTime =
    (s : Signals) (part : Counters) (nets : Counted) (loops : List Loop) (issue done : ℕ → Bool) (interval latency begun : ℕ) → 1 ≤ interval → CountsGroups s part nets
    → IssuesAll (is_on s part.start) (is_on s nets.more) (is_on s part.step) issue done interval latency → AreLoopsAt s begun part.counters.items loops → is_on s part.start begun ≡ true
    → ((t : ℕ) → begun < t → t ≤ issue_cycle begun interval (length (group_values loops)) → is_on s part.start t ≡ false)
    → RunsInTime (is_on s part.step) issue done begun interval latency (length (group_values loops))
    × ((k : ℕ) → k < length (group_values loops) → AreAtGroup s part nets loops k (issue_cycle begun interval k))
