use Rattle.std.proofs.Common.{refl, arith}
use Rattle.sp_listing.proofs.WordLemmas.{word_is, texts_are}
use Rattle.sp_listing.proofs.cells.computed.cast.Goals as goal

pub returns-in_err-net : goal.returns-in_err-net
returns-in_err-net c = rw c.from_residual.ensures (λ net from to a f same. c.in_err-net.ensures net f.0 (word_is c.args.parts.now _ 0 same))

pub returns-in_err-from : goal.returns-in_err-from
returns-in_err-from c = rw c.from_residual-in_err-from.ensures (λ net from to a f same. c.in_err-from.ensures from (word_is c.args.parts.now _ 1 same))

pub returns-in_err-to : goal.returns-in_err-to
returns-in_err-to c = rw c.from_residual-in_err-to.ensures (λ net from to a f same. c.in_err-to.ensures to (word_is c.args.parts.now _ 2 same))

pub returns-in_err-a : goal.returns-in_err-a
returns-in_err-a c = rw c.from_residual-in_err-a.ensures (λ net from to a f same. c.in_err-a.ensures a f.1 (word_is c.args.parts.now _ 3 same))

pub returns : goal.returns
returns c = record {
  of_kind = refl;
  formed = (c.in_ok-net.ensures.0, c.in_ok-a.ensures.0);
  same = texts_are c.args.parts.now _ (omega (arith, c.in-len4.len_at_least, c.in-len4.len_below)) (c.in_ok-net.ensures.1, (c.in_ok-from.ensures, (c.in_ok-to.ensures, (c.in_ok-a.ensures.1, tt))));
}
