use Rattle.std.proofs.Common.{[], ◌∙◌, sym, ap, refl, arith}
use Rattle.std.proofs.lemmas.List.{take_all}
use Rattle.sp_gates.proofs.Growing.{Fills-none, Fills-join}
use Rattle.sp_gates.proofs.Running.{runs_earlier}
use Rattle.sp_mem.specs.Copies.{freshened}
use Rattle.sp_mem.specs.Fits.{FreshFits}
use Rattle.sp_mem.proofs.CopyLemmas.{at_item, freshened_more, chosen_by}
use Rattle.sp_mem.proofs.Kept.{fresh_kept}
use Rattle.sp_mem.proofs.copies.made_fresh.Goals as goal

pub loop-f-init : goal.loop-f-init
loop-f-init c = record { fills = Fills-none _; net = c.requires.old; word = λ s r t. refl }

pub done_to-requires : goal.done_to-requires
done_to-requires c =
    let fit = at_item (FreshFits c.loop-f.builder) c.args.fresh.now c.loop-f.f-index _ (fresh_kept _ _ c.loop-f.invariant.fills.grows _ c.requires.fresh) c.loop-f-test.true c.f-item.is in
    record { enable = fit.enable; copy = fit.copy }

pub loop-f-preserved : goal.loop-f-preserved
loop-f-preserved c =
    let i = c.loop-f.invariant in
    let on = c.in_ok-on.ensures in
    let e = c.in_ok-net.ensures in
    record {
      fills = Fills-join _ _ _ [] [] i.fills (Fills-join _ _ _ [] [] on.fills e.fills);
      net = e.net;
      word = λ s run t.
          let middle = runs_earlier _ _ s e.fills.grows run in
          let before = runs_earlier _ _ s on.fills.grows middle in
          chosen_by _ _ _ _ _ _ (on.on s middle t) (e.word s run t) (i.word s before t)
          ∙ sym (freshened_more s t c.args.number (s.net t c.args.first) c.args.fresh.now c.loop-f.f-index c.f-item.result (s.net t c.args.old) c.loop-f-test.true c.f-item.is);
    }

pub returns-clause-word : goal.returns-clause-word
returns-clause-word c = λ s run t.
    c.loop-f.invariant.word s run t
    ∙ ap (λ fs. freshened s t c.args.number (s.net t c.args.first) fs (s.net t c.args.old)) (take_all c.loop-f.f-index c.args.fresh.now (let past = c.loop-f-test.false in omega (arith, past)))
