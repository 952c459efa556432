use Rattle.std.proofs.Common.{[], ◌∙◌, sym, ap, refl, arith}
use Rattle.std.proofs.lemmas.List.{take_all}
use Rattle.sp_gates.proofs.Growing.{Fills-none, Fills-join, HasNet-stays}
use Rattle.sp_gates.proofs.Running.{runs_earlier}
use Rattle.sp_mem.specs.Copies.{written}
use Rattle.sp_mem.specs.Fits.{WriteFits}
use Rattle.sp_mem.proofs.CopyLemmas.{at_item, written_more, chosen_by}
use Rattle.sp_mem.proofs.Kept.{writes_kept}
use Rattle.sp_mem.proofs.copies.after_writes.Goals as goal

pub loop-w-init : goal.loop-w-init
loop-w-init c = record { fills = Fills-none _; net = c.requires.old; word = λ s r t. refl }

pub done_to-requires : goal.done_to-requires
done_to-requires c =
    let fit = at_item (WriteFits c.loop-w.builder c.args.width) c.args.writes.now c.loop-w.w-index _ (writes_kept _ _ c.loop-w.invariant.fills.grows _ _ c.requires.writes) c.loop-w-test.true c.w-item.is in
    record { enable = fit.enable; copy = fit.copy }

pub choose-requires-clause-left : goal.choose-requires-clause-left
choose-requires-clause-left c =
    let fit = at_item (WriteFits c.loop-w.builder c.args.width) c.args.writes.now c.loop-w.w-index _ (writes_kept _ _ c.loop-w.invariant.fills.grows _ _ c.requires.writes) c.loop-w-test.true c.w-item.is in
    HasNet-stays _ _ _ _ c.in_ok-on.ensures.fills.grows fit.word

pub loop-w-preserved : goal.loop-w-preserved
loop-w-preserved c =
    let i = c.loop-w.invariant in
    let on = c.in_ok-on.ensures in
    let e = c.in_ok-net.ensures in
    record {
      fills = Fills-join _ _ _ [] [] i.fills (Fills-join _ _ _ [] [] on.fills e.fills);
      net = e.net;
      word = λ s run t.
          let middle = runs_earlier _ _ s e.fills.grows run in
          let before = runs_earlier _ _ s on.fills.grows middle in
          chosen_by _ _ _ _ _ _ (on.on s middle t) (e.word s run t) (i.word s before t)
          ∙ sym (written_more s t c.args.number c.args.writes.now c.loop-w.w-index c.w-item.result (s.net t c.args.old) c.loop-w-test.true c.w-item.is);
    }

pub returns-clause-word : goal.returns-clause-word
returns-clause-word c = λ s run t.
    c.loop-w.invariant.word s run t
    ∙ ap (λ ws. written s t c.args.number ws (s.net t c.args.old)) (take_all c.loop-w.w-index c.args.writes.now (let past = c.loop-w-test.false in omega (arith, past)))
