-- A whole core in lanes keeps the rules of cores.
use Rattle.std.proofs.Common.{◌≡◌, ℕ, ◌+◌, ◌*◌, ◌≤◌, true, [], refl, arith}
use Rattle.std.specs.Prelude.{IsTrue}
use Rattle.sp_core.specs.Around.{nothing}
use Rattle.sp_core.specs.Invariant.{have_owners, owned_in}
use Rattle.sp_core.specs.MemoryRules.{are_memories_right, are_ports_right}
use Rattle.sp_core.specs.NodeRules.{is_owned_once}
use Rattle.sp_core.specs.PlainCore.{PlainCore}
use Rattle.sp_lanes.specs.Order.{memory_order}
use Rattle.sp_lanes.specs.Unrolled.{unrolled}
use Rattle.sp_lanes.specs.Within.{outside}
use Rattle.sp_lane_rules.specs.Copies.{occurrences, copies_in}
use Rattle.sp_lane_rules.proofs.CopiesCounts.{are_counted}
use Rattle.sp_lane_rules.proofs.CopiesMemoryRules.{keep_memory_rules}
use Rattle.sp_lane_rules.proofs.UnrolledPlaces.{outside_together}
use Rattle.sp_lane_rules.proofs.UnrolledWhole.{each_right, right_from}
use Rattle.sp_lane_rules.specs.CombinedLaws.{KeepRules}
use Rattle.sp_lane_rules.proofs.CombinedTree.{node_kept}

pub keep_rules : (core : PlainCore) → KeepRules core
unfolding unrolled
keep_rules core h lanes written combines small = record {
  memories = memories.0;
  ports = memories.1;
  owners = memories.2;
  size = small;
  nodes = right_from (unrolled core) (unrolled core).root nothing [] (node_kept core core.root [] nothing nothing (outside (memory_order core)) (outside_together core) (λ c e. refl) fits combines (each_right core core.root nothing [] h.nodes)) memories.3;
}
  where
    memories : IsTrue (are_memories_right (unrolled core)) × IsTrue (are_ports_right (unrolled core)) × IsTrue (have_owners (unrolled core)) × (is_owned_once (unrolled core) [] (owned_in (unrolled core).root) ≡ true)
    memories = keep_memory_rules core h lanes written

    fits : (n : ℕ) → (0 + 1) * copies_in core.root n ≤ occurrences n (memory_order core)
    fits n = omega (arith, are_counted core n)
