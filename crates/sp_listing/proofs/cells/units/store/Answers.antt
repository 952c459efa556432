use Rattle.std.proofs.Common.{refl, arith}
use Rattle.sp_listing.proofs.WordLemmas.{word_is, texts_are}
use Rattle.sp_listing.proofs.cells.units.store.Goals as goal

pub returns-in_err-channel : goal.returns-in_err-channel
returns-in_err-channel c = rw c.from_residual.ensures (λ channel dram ready request last addr word f same. c.in_err-channel.ensures channel f.0 (word_is c.args.parts.now _ 0 same))

pub returns-in_err-dram : goal.returns-in_err-dram
returns-in_err-dram c = rw c.from_residual-in_err-dram.ensures (λ channel dram ready request last addr word f same. c.in_err-dram.ensures dram f.1 (word_is c.args.parts.now _ 1 same))

pub returns-in_err-ready : goal.returns-in_err-ready
returns-in_err-ready c = rw c.from_residual-in_err-ready.ensures (λ channel dram ready request last addr word f same. c.in_err-ready.ensures ready f.2 (word_is c.args.parts.now _ 2 same))

pub returns-in_err-request : goal.returns-in_err-request
returns-in_err-request c = rw c.from_residual-in_err-request.ensures (λ channel dram ready request last addr word f same. c.in_err-request.ensures request f.3 (word_is c.args.parts.now _ 3 same))

pub returns-in_err-last : goal.returns-in_err-last
returns-in_err-last c = rw c.from_residual-in_err-last.ensures (λ channel dram ready request last addr word f same. c.in_err-last.ensures last f.4 (word_is c.args.parts.now _ 4 same))

pub returns-in_err-addr : goal.returns-in_err-addr
returns-in_err-addr c = rw c.from_residual-in_err-addr.ensures (λ channel dram ready request last addr word f same. c.in_err-addr.ensures addr f.5 (word_is c.args.parts.now _ 5 same))

pub returns-in_err-word : goal.returns-in_err-word
returns-in_err-word c = rw c.from_residual-in_err-word.ensures (λ channel dram ready request last addr word f same. c.in_err-word.ensures word f.6 (word_is c.args.parts.now _ 6 same))

pub returns : goal.returns
returns c = record {
  of_kind = refl;
  formed = (c.in_ok-channel.ensures.0, c.in_ok-dram.ensures.0, c.in_ok-ready.ensures.0, c.in_ok-request.ensures.0, c.in_ok-last.ensures.0, c.in_ok-addr.ensures.0, c.in_ok-word.ensures.0);
  same = texts_are c.args.parts.now _ (omega (arith, c.in-len7.len_at_least, c.in-len7.len_below)) (c.in_ok-channel.ensures.1, (c.in_ok-dram.ensures.1, (c.in_ok-ready.ensures.1, (c.in_ok-request.ensures.1, (c.in_ok-last.ensures.1, (c.in_ok-addr.ensures.1, (c.in_ok-word.ensures.1, tt)))))));
}
