use Rattle.std.proofs.Common.{refl, arith}
use Rattle.sp_listing.proofs.WordLemmas.{word_is, texts_are}
use Rattle.sp_listing.proofs.cells.kept.done.Goals as goal

pub returns-in_err-net : goal.returns-in_err-net
returns-in_err-net c = rw c.from_residual.ensures (λ net f same. c.in_err-net.ensures net f (word_is c.args.parts.now _ 0 same))

pub returns : goal.returns
returns c = record {
  of_kind = refl;
  formed = c.in_ok-net.ensures.0;
  same = texts_are c.args.parts.now _ (omega (arith, c.in-len1.len_at_least, c.in-len1.len_below)) (c.in_ok-net.ensures.1, tt);
}
