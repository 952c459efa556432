use Rattle.std.proofs.Common.{[], take, ◌==◌, ◌||◌, sym, ap, ◌∙◌, arith}
use Rattle.std.proofs.lemmas.List.{take_all}
use Rattle.sp_gates.specs.Tested.{is_on}
use Rattle.sp_gates.proofs.Growing.{Fills-join, HasNet-stays}
use Rattle.sp_gates.proofs.Running.{runs_earlier}
use Rattle.sp_queue_copies.specs.Events.{TouchFits, is_touched}
use Rattle.sp_queue_copies.proofs.Lists.{at_item, touches_kept, touch_more}
use Rattle.sp_queue_copies.proofs.events.touched.Goals as goal

pub loop-touch-init : goal.loop-touch-init
loop-touch-init c = record { fills = c.in_ok-net.ensures.fills; net = c.in_ok-net.ensures.net; on = λ s run t. ap (λ n. n == 1) (c.in_ok-net.ensures.word s run t) }

pub done_to-requires : goal.done_to-requires
done_to-requires c =
    let fit = at_item (TouchFits c.loop-touch.builder) c.args.touches.now c.loop-touch.touch-index c.touch-item.result (touches_kept _ _ c.loop-touch.invariant.fills.grows c.args.touches.now c.requires) c.loop-touch-test.true c.touch-item.is in
    record { enable = fit.enable; copy = fit.copy }

pub on_either-requires-clause-left : goal.on_either-requires-clause-left
on_either-requires-clause-left c = HasNet-stays _ _ _ _ c.in_ok-on.ensures.fills.grows c.loop-touch.invariant.net

pub loop-touch-preserved : goal.loop-touch-preserved
loop-touch-preserved c =
    let i = c.loop-touch.invariant in
    let on = c.in_ok-on.ensures in
    let e = c.in_ok-net-2.ensures in
    record {
      fills = Fills-join _ _ _ [] [] i.fills (Fills-join _ _ _ [] [] on.fills e.fills);
      net = e.net;
      on = λ s run t.
          let middle = runs_earlier _ _ s e.fills.grows run in
          let before = runs_earlier _ _ s on.fills.grows middle in
          e.on s run t
          ∙ ap (λ b. b || is_on s c.in_ok-on.on t) (i.on s before t)
          ∙ ap (λ b. is_touched s t c.args.number (take c.loop-touch.touch-index c.args.touches.now) || b) (on.on s middle t)
          ∙ sym (touch_more s t c.args.number c.args.touches.now c.loop-touch.touch-index c.touch-item.result c.loop-touch-test.true c.touch-item.is);
    }

pub returns-clause-on : goal.returns-clause-on
returns-clause-on c = λ s run t.
    c.loop-touch.invariant.on s run t ∙ ap (is_touched s t c.args.number) (take_all c.loop-touch.touch-index c.args.touches.now (let past = c.loop-touch-test.false in omega (arith, past)))
