use Rattle.std.proofs.Common.{◌≡◌, ◌*◌, ◌≤◌, max, drop, map}
use Rattle.std.specs.Prelude.{filter}
use Rattle.sp_tree.specs.Counts as plain
use Rattle.sp_counts.specs.Capped.{most, capped}
use Rattle.sp_counts.specs.Pieces.{piece_of}
use Rattle.sp_counts.proofs.words.greatest_run.Given as goal

abbrev pub invariant-loop-piece : goal.invariant-loop-piece
invariant-loop-piece l = (l.most ≤ most) × (capped (max l.most (plain.greatest (map (λ (x : plain.Piece). x.operations * x.lanes) (filter (λ (x : plain.Piece). x.is_run) (map piece_of (drop l.piece-index l.pieces)))))) ≡ capped (plain.greatest (map (λ (x : plain.Piece). x.operations * x.lanes) (filter (λ (x : plain.Piece). x.is_run) (map piece_of l.pieces)))))
