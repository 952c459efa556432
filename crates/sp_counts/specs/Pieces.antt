-- Pieces, without where they lie in memory.
use Rattle.sp_tree.specs.Counts as plain
use Rattle.sp_counts.specs.declared.pieces.Piece.{Piece}

abbrev pub piece_of : Piece → plain.Piece
piece_of x = record { is_run = x.is_run; lanes = x.lanes; operations = x.operations; reads = x.reads.items }
