use Rattle.std.proofs.Common.{◌≡◌, ◌+◌, ◌*◌, ◌≤◌, drop, map}
use Rattle.std.specs.Prelude.{sum_by}
use Rattle.sp_tree.specs.Counts as plain
use Rattle.sp_counts.specs.Capped.{most, capped}
use Rattle.sp_counts.specs.Pieces.{piece_of}
use Rattle.sp_counts.proofs.words.all_operations.Given as goal

abbrev pub invariant-loop-piece : goal.invariant-loop-piece
invariant-loop-piece l = (l.total ≤ most) × (capped (l.total + sum_by (λ (x : plain.Piece). x.operations * x.lanes) (map piece_of (drop l.piece-index l.pieces))) ≡ capped (sum_by (λ (x : plain.Piece). x.operations * x.lanes) (map piece_of l.pieces)))
