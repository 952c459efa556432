-- The runs of a body under counters: the loops that its counters are in each of them.
use Rattle.std.specs.Prelude.{◌≡◌, ℕ, ◌<◌, ◌≤◌, List, length, map}
use Rattle.std.specs.List.{Contains}
use Rattle.sp_netlist.specs.Signals.{Signals}
use Rattle.sp_core.specs.Scope.{Loop, group_values}
use Rattle.sp_pipe.specs.Laws.{issue_cycle}
use Rattle.sp_counters.specs.declared.part.Counters.{Counters}
use Rattle.sp_counters.specs.declared.part.Counted.{Counted}
use Rattle.sp_counters.specs.Laws.{AreLoopsAt, AreAtGroup}
use Rattle.sp_part_runs.specs.BodiesRuns.{Begun}

-- in each run that begins by a cycle the bounds of the counters are those of its loops, which have as many groups as the run
abbrev pub AreLoopsOf : Signals → Counters → (loops : Begun → List Loop) → List Begun → (last : ℕ) → Type 0
AreLoopsOf s part loops runs last = (r : Begun) → Contains runs r → r.cycle ≤ last → AreLoopsAt s r.cycle part.counters.items (loops r) × (r.groups ≡ length (group_values (loops r)))

-- where a group is issued the counters have its words, and the masks tell which lanes have an iteration
abbrev pub AreInGroups : Signals → Counters → Counted → (loops : Begun → List Loop) → (interval : ℕ) → List Begun → (last : ℕ) → Type 0
AreInGroups s part nets loops ii runs last = (r : Begun) (k : ℕ) → Contains runs r → k < r.groups → issue_cycle r.cycle ii k ≤ last → AreAtGroup s part nets (loops r) k (issue_cycle r.cycle ii k)
