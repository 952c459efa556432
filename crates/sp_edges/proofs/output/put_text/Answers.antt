use Rattle.std.proofs.Common.{arith, length, ◌∙◌, ◌<◌, ◌∷◌, ◌++◌, []}
use Rattle.std.specs.Slice.Iter.{chunks_rest}
use Rattle.sp_edges.specs.Pieces.{IsFirstPiece}
use Rattle.sp_edges.proofs.PutText.{HasPut-more, OnErr-always, GainedPart-piece, AreFirstPieces-more, IsFirstPiece-of, length_zero}
use Rattle.sp_edges.proofs.output.put_text.Goals as goal

pub loop-piece-preserved : goal.loop-piece-preserved
loop-piece-preserved g c =
    let size = c.loop-piece.invariant.size in
    let put = c.loop-piece.invariant.put in
    let pieces = c.loop-piece.invariant.pieces in
    let step = c.in-Some.ensures.steps in
    let piece = c.in-Some.piece.now in
    let some : 0 < length piece = omega (arith, size, step.1.1, step.1.2) in
    let next : IsFirstPiece (chunks_rest c.loop-piece.piece-iterator) piece (chunks_rest c.next.new.self) =
    IsFirstPiece-of _ piece _ _ step.1.0 step.1.1 size step.1.2 in
    record {
      size = step.0 ∙ size;
      put = HasPut-more c.args.text.now (chunks_rest c.loop-piece.piece-iterator) (chunks_rest c.next.new.self) piece
          (g.K.Sink.taken c.args.sink.now) (g.K.Sink.taken c.loop-piece.sink) (g.K.Sink.taken c.put.new.self)
          (g.K.Sink.faults c.args.sink.now) (g.K.Sink.faults c.loop-piece.sink) (g.K.Sink.faults c.put.new.self)
          (g.K.Sink.sure_room c.args.sink.now) (g.K.Sink.sure_room c.loop-piece.sink) (g.K.Sink.sure_room c.put.new.self)
          put step.1.0 some c.in_ok-put.ensures.whole c.in_ok-put.ensures.counts c.in_ok-put.ensures.room;
      pieces = pieces ++ piece ∷ [];
      first = AreFirstPieces-more c.args.text.now pieces _ piece _ c.loop-piece.invariant.first next;
      was_put = g.met.K.Sink.more_puts _ _ _ pieces (piece ∷ []) c.loop-piece.invariant.was_put c.in_ok-put.ensures.puts;
    }

pub returns-in_err-put-clause-part : goal.returns-in_err-put-clause-part
returns-in_err-put-clause-part g c =
    let put = c.loop-piece.invariant.put in
    OnErr-always c.from_residual.result
    (GainedPart-piece c.args.text.now (chunks_rest c.loop-piece.piece-iterator) (chunks_rest c.next.new.self) c.in-Some.piece.now
    (g.K.Sink.taken c.args.sink.now) (g.K.Sink.taken c.loop-piece.sink) (g.K.Sink.taken c.put.new.self)
    put.front put.split c.in-Some.ensures.steps.1.0 put.gained c.in_err-put.ensures.part)

pub returns-in_err-put-clause-first : goal.returns-in_err-put-clause-first
returns-in_err-put-clause-first g c =
    let inv = c.loop-piece.invariant in
    let step = c.in-Some.ensures.steps in
    let piece = c.in-Some.piece.now in
    OnErr-always c.from_residual.result (
      inv.pieces ++ piece ∷ [],
      chunks_rest c.next.new.self,
      AreFirstPieces-more c.args.text.now inv.pieces _ piece _ inv.first (IsFirstPiece-of _ piece _ _ step.1.0 step.1.1 inv.size step.1.2),
      g.met.K.Sink.more_puts _ _ _ inv.pieces (piece ∷ []) inv.was_put c.in_err-put.ensures.puts,
    )

pub returns-clause-all : goal.returns-clause-all
returns-clause-all g c =
    let inv = c.loop-piece.invariant in
    let none = length_zero _ c.in-None.ensures.steps.1.0 in
    (inv.pieces, rw (← none) inv.first, inv.was_put)
