use Rattle.std.proofs.Common.{◌≡◌, ◌-◌, length, drop, map, true}
use Rattle.sp_tree.specs.Streams.{is_forest}
use Rattle.sp_counts.specs.Streams.{edge_of}
use Rattle.sp_counts.proofs.ForestLemmas.{Tells}
use Rattle.sp_counts.proofs.forest.is_forest.Given as goal

abbrev pub invariant-loop-k : goal.invariant-loop-k
invariant-loop-k l =
    (length l.labels.items ≡ l.n)
    × (is_forest (map edge_of (drop (length l.edges - l.k) l.edges)) ≡ true)
    × Tells l.n l.labels.items (map edge_of (drop (length l.edges - l.k) l.edges))
