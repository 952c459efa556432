use Rattle.std.proofs.Common.{refl, arith}
use Rattle.sp_listing.proofs.WordLemmas.{word_is, texts_are}
use Rattle.sp_listing.proofs.cells.kept.read_tap.Goals as goal

pub returns-in_err-net : goal.returns-in_err-net
returns-in_err-net c = rw c.from_residual.ensures (λ net bank enable addr f same. c.in_err-net.ensures net f.0 (word_is c.args.parts.now _ 0 same))

pub returns-in_err-bank : goal.returns-in_err-bank
returns-in_err-bank c = rw c.from_residual-in_err-bank.ensures (λ net bank enable addr f same. c.in_err-bank.ensures bank f.1 (word_is c.args.parts.now _ 1 same))

pub returns-in_err-enable : goal.returns-in_err-enable
returns-in_err-enable c = rw c.from_residual-in_err-enable.ensures (λ net bank enable addr f same. c.in_err-enable.ensures enable f.2 (word_is c.args.parts.now _ 2 same))

pub returns-in_err-addr : goal.returns-in_err-addr
returns-in_err-addr c = rw c.from_residual-in_err-addr.ensures (λ net bank enable addr f same. c.in_err-addr.ensures addr f.3 (word_is c.args.parts.now _ 3 same))

pub returns : goal.returns
returns c = record {
  of_kind = refl;
  formed = (c.in_ok-net.ensures.0, c.in_ok-bank.ensures.0, c.in_ok-enable.ensures.0, c.in_ok-addr.ensures.0);
  same = texts_are c.args.parts.now _ (omega (arith, c.in-len4.len_at_least, c.in-len4.len_below)) (c.in_ok-net.ensures.1, (c.in_ok-bank.ensures.1, (c.in_ok-enable.ensures.1, (c.in_ok-addr.ensures.1, tt))));
}
