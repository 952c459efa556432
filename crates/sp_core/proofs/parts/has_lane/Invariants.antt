use Rattle.std.proofs.Common.{◌≡◌, drop, map}
use Rattle.sp_core.specs.Around.{has_lane}
use Rattle.sp_core.specs.PartsPlain.{near_of}
use Rattle.sp_core.proofs.parts.has_lane.Given as goal

abbrev pub invariant-loop-near : goal.invariant-loop-near
invariant-loop-near l = has_lane (map near_of (drop l.near-index l.counters)) l.counter l.lane ≡ has_lane (map near_of l.counters) l.counter l.lane
