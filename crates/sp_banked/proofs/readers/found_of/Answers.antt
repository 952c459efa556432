use Rattle.std.proofs.Common.{◌+◌, [], sym, ap, arith}
use Rattle.sp_gates.proofs.Growing.{Fills-join, HasNet-stays}
use Rattle.sp_gates.proofs.Running.{runs_earlier}
use Rattle.sp_taps.specs.declared.store.Store.{Store}
use Rattle.sp_banked.proofs.Reading.{found_more}
use Rattle.sp_banked.proofs.readers.found_of.Goals as goal

pub loop-i-init : goal.loop-i-init
loop-i-init c = record { fills = c.in_ok-word.ensures.fills; net = c.in_ok-word.ensures.net; word = λ s run t a b small l. absurd (omega (arith, l)) }

pub found_at-requires : goal.found_at-requires
found_at-requires c =
    let grows = c.loop-i.invariant.fills.grows in
    let below = c.loop-i-test.true in
    let within = c.requires.within in
    record {
      width = c.requires.width;
      copy = HasNet-stays _ _ _ _ grows c.requires.copy;
      bank = HasNet-stays _ _ _ _ grows c.requires.bank;
      found = HasNet-stays _ _ _ _ grows (c.requires.stores (c.args.from + c.loop-i.i) c.index-stores-from.result (omega (arith, below, within)));
      other = c.loop-i.invariant.net;
    }

pub loop-i-preserved : goal.loop-i-preserved
loop-i-preserved c =
    let i = c.loop-i.invariant in
    let e = c.in_ok-word-2.ensures in
    let below = c.loop-i-test.true in
    let within = c.requires.within in
    record {
      fills = Fills-join _ _ _ [] [] i.fills e.fills;
      net = e.net;
      word = λ s run t.
          found_more s t c.args.copy c.args.bank c.args.stores.now c.args.from c.loop-i.i c.args.banks c.loop-i.word c.in_ok-word-2.word _ c.index-stores-from.result (omega (arith, below, within)) c.index-stores-from.is
          (ap (λ (st : Store). s.net t st.found) (sym c.index-stores-from.is)) (e.word s run t) (i.word s (runs_earlier _ _ s e.fills.grows run) t);
    }
