use Rattle.std.proofs.Common.{◌≡◌, ℕ, List}
use Rattle.std.specs.Slice.Iter.{chunks_rest, chunks_size}
use Rattle.sp_edges.specs.Pieces.{AreFirstPieces}
use Rattle.sp_edges.proofs.PutText.{HasPut}
use Rattle.sp_edges.proofs.output.put_text.Given as goal

abbrev pub invariant-loop-piece : goal.invariant-loop-piece
invariant-loop-piece g l = record {
  size : chunks_size l.piece-iterator ≡ 65536;
  put : HasPut l.text (chunks_rest l.piece-iterator) (g.K.Sink.taken l.initial.sink) (g.K.Sink.taken l.sink) (g.K.Sink.faults l.initial.sink) (g.K.Sink.faults l.sink) (g.K.Sink.sure_room l.initial.sink) (g.K.Sink.sure_room l.sink);
  pieces : List (List ℕ);
  first : AreFirstPieces l.text pieces (chunks_rest l.piece-iterator);
  was_put : g.K.Sink.was_put l.initial.sink pieces l.sink;
}
