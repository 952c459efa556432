use Rattle.std.proofs.Common.{◌≡◌, ◌&&◌, map, drop}
use Rattle.std.specs.List.{list_all}
use Rattle.sp_core.specs.CoreParts.{plain_core}
use Rattle.sp_core.specs.Plain.{plain_counter}
use Rattle.sp_build.specs.Buildable.{has_early_bounds}
use Rattle.sp_build.proofs.buildable.have_early_bounds.Given as goal

-- what is found so far, and what is left
abbrev pub invariant-loop-counter : goal.invariant-loop-counter
invariant-loop-counter l = (l.all && list_all (has_early_bounds (plain_core l.core)) (map plain_counter (drop l.counter-index l.counters))) ≡ list_all (has_early_bounds (plain_core l.core)) (map plain_counter l.counters)
