use Rattle.std.proofs.Common.{◌≡◌, ◌+◌, ◌≤◌, drop, map}
use Rattle.std.specs.Prelude.{sum_by}
use Rattle.sp_tree.specs.Tallies as plain
use Rattle.sp_counts.specs.Capped.{most, capped}
use Rattle.sp_counts.specs.Tallies.{tally_of}
use Rattle.sp_counts.proofs.nodes.sum_nodes.Given as goal

abbrev pub invariant-loop-t : goal.invariant-loop-t
invariant-loop-t l = (l.total ≤ most) × (capped (l.total + sum_by (λ (t : plain.Tally). t.nodes) (map tally_of (drop l.t-index l.tallies))) ≡ capped (sum_by (λ (t : plain.Tally). t.nodes) (map tally_of l.tallies)))
