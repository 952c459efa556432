use Rattle.std.proofs.Common.{◌≡◌, ◌+◌, ◌≤◌, drop, map}
use Rattle.std.specs.Prelude.{count_by}
use Rattle.sp_tree.specs.Counts as plain
use Rattle.sp_tree.specs.Tallies.{is_among}
use Rattle.sp_counts.specs.Pieces.{piece_of}
use Rattle.sp_counts.proofs.words.readers_of.Given as goal

abbrev pub invariant-loop-piece : goal.invariant-loop-piece
invariant-loop-piece l = (l.count ≤ l.piece-index) × (l.count + count_by (λ (x : plain.Piece). is_among l.m x.reads) (map piece_of (drop l.piece-index l.pieces)) ≡ count_by (λ (x : plain.Piece). is_among l.m x.reads) (map piece_of l.pieces))
