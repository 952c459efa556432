-- Laws of the iterations of groups of lanes, as statements.
use Rattle.std.specs.Prelude.{◌≡◌, ℕ, List, length, flat_map}
use Rattle.std.specs.List.{All}
use Rattle.sp_core.specs.History.{Bounds}
use Rattle.sp_core.specs.PlainCore.{PlainCounter}
use Rattle.sp_core.specs.Scope.{plainly, in_lanes, loops_of, group_values}
use Rattle.sp_lane_cores.specs.LanedMarks.{LanesAtLast}
use Rattle.sp_lane_groups.specs.ValuesLanes.{GoOn, iterations_of, AreFirst}

-- the iterations of a controller, in order, are those of its groups of lanes, one group after the other
abbrev pub GroupsAreIterations : Type 0
GroupsAreIterations =
    (counters : List PlainCounter) (bounds : List Bounds) → length bounds ≡ length counters → LanesAtLast counters → GoOn counters
    → group_values (loops_of plainly counters bounds) ≡ flat_map (iterations_of counters (loops_of in_lanes counters bounds)) (group_values (loops_of in_lanes counters bounds))

-- in each group the first lanes have an iteration, and at least one does
abbrev pub FirstLanesAreLive : Type 0
FirstLanesAreLive =
    (counters : List PlainCounter) (bounds : List Bounds) → length bounds ≡ length counters → LanesAtLast counters → GoOn counters
    → All (λ values. (count : ℕ) × AreFirst counters (loops_of in_lanes counters bounds) values count) (group_values (loops_of in_lanes counters bounds))
