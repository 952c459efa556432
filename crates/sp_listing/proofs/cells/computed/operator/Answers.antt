use Rattle.std.proofs.Common.{refl, arith}
use Rattle.sp_listing.proofs.WordLemmas.{word_is, texts_are}
use Rattle.sp_listing.proofs.cells.computed.operator.Goals as goal

pub returns-in_err-net : goal.returns-in_err-net
returns-in_err-net c = rw c.from_residual.ensures (λ net ty op a b f same. c.in_err-net.ensures net f.0 (word_is c.args.parts.now _ 0 same))

pub returns-in_err-ty : goal.returns-in_err-ty
returns-in_err-ty c = rw c.from_residual-in_err-ty.ensures (λ net ty op a b f same. c.in_err-ty.ensures ty (word_is c.args.parts.now _ 1 same))

pub returns-in_err-op : goal.returns-in_err-op
returns-in_err-op c = rw c.from_residual-in_err-op.ensures (λ net ty op a b f same. c.in_err-op.ensures op (word_is c.args.parts.now _ 2 same))

pub returns-in_err-a : goal.returns-in_err-a
returns-in_err-a c = rw c.from_residual-in_err-a.ensures (λ net ty op a b f same. c.in_err-a.ensures a f.1 (word_is c.args.parts.now _ 3 same))

pub returns-in_err-b : goal.returns-in_err-b
returns-in_err-b c = rw c.from_residual-in_err-b.ensures (λ net ty op a b f same. c.in_err-b.ensures b f.2 (word_is c.args.parts.now _ 4 same))

pub returns : goal.returns
returns c = record {
  of_kind = refl;
  formed = (c.in_ok-net.ensures.0, c.in_ok-a.ensures.0, c.in_ok-b.ensures.0);
  same = texts_are c.args.parts.now _ (omega (arith, c.in-len5.len_at_least, c.in-len5.len_below)) (c.in_ok-net.ensures.1, (c.in_ok-ty.ensures, (c.in_ok-op.ensures, (c.in_ok-a.ensures.1, (c.in_ok-b.ensures.1, tt)))));
}
