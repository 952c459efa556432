use Rattle.std.proofs.Common.{[], ◌∙◌, sym, ap, arith}
use Rattle.std.proofs.lemmas.List.{take_all}
use Rattle.sp_gates.proofs.Growing.{Fills-join, HasNet-stays}
use Rattle.sp_gates.proofs.Running.{runs_earlier}
use Rattle.sp_mem.specs.Copies.{written}
use Rattle.sp_mem.specs.Fits.{WriteFits}
use Rattle.sp_mem.proofs.CopyLemmas.{at_item, written_more, chosen_by}
use Rattle.sp_mem.proofs.Kept.{writes_kept}
use Rattle.sp_queue_copies.proofs.events.word_put.Goals as goal

pub loop-p-init : goal.loop-p-init
loop-p-init c = record { fills = c.in_ok-net.ensures.fills; net = c.in_ok-net.ensures.net; word = λ s run t. c.in_ok-net.ensures.word s run t }

pub done_to-requires : goal.done_to-requires
done_to-requires c =
    let fit = at_item (WriteFits c.loop-p.builder c.args.width) c.args.puts.now c.loop-p.p-index _ (writes_kept _ _ c.loop-p.invariant.fills.grows _ _ c.requires.puts) c.loop-p-test.true c.p-item.is in
    record { enable = fit.enable; copy = fit.copy }

pub choose-requires-clause-left : goal.choose-requires-clause-left
choose-requires-clause-left c =
    let fit = at_item (WriteFits c.loop-p.builder c.args.width) c.args.puts.now c.loop-p.p-index _ (writes_kept _ _ c.loop-p.invariant.fills.grows _ _ c.requires.puts) c.loop-p-test.true c.p-item.is in
    HasNet-stays _ _ _ _ c.in_ok-on.ensures.fills.grows fit.word

pub loop-p-preserved : goal.loop-p-preserved
loop-p-preserved c =
    let i = c.loop-p.invariant in
    let on = c.in_ok-on.ensures in
    let e = c.in_ok-net-2.ensures in
    record {
      fills = Fills-join _ _ _ [] [] i.fills (Fills-join _ _ _ [] [] on.fills e.fills);
      net = e.net;
      word = λ s run t.
          let middle = runs_earlier _ _ s e.fills.grows run in
          let before = runs_earlier _ _ s on.fills.grows middle in
          chosen_by _ _ _ _ _ _ (on.on s middle t) (e.word s run t) (i.word s before t)
          ∙ sym (written_more s t c.args.number c.args.puts.now c.loop-p.p-index c.p-item.result 0 c.loop-p-test.true c.p-item.is);
    }

pub returns-clause-word : goal.returns-clause-word
returns-clause-word c = λ s run t.
    c.loop-p.invariant.word s run t ∙ ap (λ ws. written s t c.args.number ws 0) (take_all c.loop-p.p-index c.args.puts.now (let past = c.loop-p-test.false in omega (arith, past)))
