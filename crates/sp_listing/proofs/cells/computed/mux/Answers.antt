use Rattle.std.proofs.Common.{refl, arith}
use Rattle.sp_listing.proofs.WordLemmas.{word_is, texts_are}
use Rattle.sp_listing.proofs.cells.computed.mux.Goals as goal

pub returns-in_err-net : goal.returns-in_err-net
returns-in_err-net c = rw c.from_residual.ensures (λ net width choice a b f same. c.in_err-net.ensures net f.0 (word_is c.args.parts.now _ 0 same))

pub returns-in_err-width : goal.returns-in_err-width
returns-in_err-width c = rw c.from_residual-in_err-width.ensures (λ net width choice a b f same. c.in_err-width.ensures width f.1 (word_is c.args.parts.now _ 1 same))

pub returns-in_err-choice : goal.returns-in_err-choice
returns-in_err-choice c = rw c.from_residual-in_err-choice.ensures (λ net width choice a b f same. c.in_err-choice.ensures choice f.2 (word_is c.args.parts.now _ 2 same))

pub returns-in_err-a : goal.returns-in_err-a
returns-in_err-a c = rw c.from_residual-in_err-a.ensures (λ net width choice a b f same. c.in_err-a.ensures a f.3 (word_is c.args.parts.now _ 3 same))

pub returns-in_err-b : goal.returns-in_err-b
returns-in_err-b c = rw c.from_residual-in_err-b.ensures (λ net width choice a b f same. c.in_err-b.ensures b f.4 (word_is c.args.parts.now _ 4 same))

pub returns : goal.returns
returns c = record {
  of_kind = refl;
  formed = (c.in_ok-net.ensures.0, c.in_ok-width.ensures.0, c.in_ok-choice.ensures.0, c.in_ok-a.ensures.0, c.in_ok-b.ensures.0);
  same = texts_are c.args.parts.now _ (omega (arith, c.in-len5.len_at_least, c.in-len5.len_below)) (c.in_ok-net.ensures.1, (c.in_ok-width.ensures.1, (c.in_ok-choice.ensures.1, (c.in_ok-a.ensures.1, (c.in_ok-b.ensures.1, tt)))));
}
