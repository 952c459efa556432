use Rattle.std.proofs.Common.{refl, arith}
use Rattle.sp_listing.proofs.WordLemmas.{word_is, texts_are}
use Rattle.sp_listing.proofs.cells.kept.bank.Goals as goal

pub returns-in_err-bank : goal.returns-in_err-bank
returns-in_err-bank c = rw c.from_residual.ensures (λ bank width len f same. c.in_err-bank.ensures bank f.0 (word_is c.args.parts.now _ 0 same))

pub returns-in_err-width : goal.returns-in_err-width
returns-in_err-width c = rw c.from_residual-in_err-width.ensures (λ bank width len f same. c.in_err-width.ensures width f.1 (word_is c.args.parts.now _ 1 same))

pub returns-in_err-len : goal.returns-in_err-len
returns-in_err-len c = rw c.from_residual-in_err-len.ensures (λ bank width len f same. c.in_err-len.ensures len f.2 (word_is c.args.parts.now _ 2 same))

pub returns : goal.returns
returns c = record {
  of_kind = refl;
  formed = (c.in_ok-bank.ensures.0, c.in_ok-width.ensures.0, c.in_ok-len.ensures.0);
  same = texts_are c.args.parts.now _ (omega (arith, c.in-len3.len_at_least, c.in-len3.len_below)) (c.in_ok-bank.ensures.1, (c.in_ok-width.ensures.1, (c.in_ok-len.ensures.1, tt)));
}
