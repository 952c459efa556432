use Rattle.std.proofs.Common.{◌≡◌, map}
use Rattle.std.specs.Prelude.{flat_map}
use Rattle.sp_core.specs.Elements.{numbers_below}
use Rattle.sp_core.specs.Plain.{plain_counter}
use Rattle.sp_lanes.specs.Within.{in_lane}
use Rattle.sp_unroll.specs.Entries.{within_of}
use Rattle.sp_unroll.proofs.parts.owned_in_lanes.Given as goal

abbrev pub invariant-loop-lane : goal.invariant-loop-lane
invariant-loop-lane l = l.all.items ≡ flat_map (λ n. map (in_lane l.order (map plain_counter l.counters) l.owned (within_of l.order l.w) n).number l.owned) (numbers_below l.lane)
