use Rattle.std.proofs.Common.{◌≡◌, ◌*◌, ◌≤◌, drop, map}
use Rattle.sp_tree.specs.PlainTree.{plain_counter}
use Rattle.sp_tree.specs.Structure.{lanes_of}
use Rattle.sp_counts.specs.Capped.{most, capped}
use Rattle.sp_counts.proofs.lanes.lanes_of.Given as goal

abbrev pub invariant-loop-counter : goal.invariant-loop-counter
invariant-loop-counter l = (l.lanes ≤ most) × (capped (l.lanes * lanes_of (map plain_counter (drop l.counter-index l.counters))) ≡ capped (lanes_of (map plain_counter l.counters)))
