use Rattle.std.proofs.Common.{[]}
use Rattle.sp_gates.proofs.Growing.{Fills-none, Fills-join, HasNet-stays}
use Rattle.sp_requests.proofs.Zips.{zip_more}
use Rattle.sp_queue_copies.specs.Events.{TouchFits}
use Rattle.sp_queue_copies.proofs.Lists.{at_item, touches_kept}
use Rattle.sp_queue.specs.Takes.{IsTake}
use Rattle.sp_queue.proofs.Taken.{takes_stay}
use Rattle.sp_queue.proofs.takes.take_requests.Goals as goal

pub loop-touch-init : goal.loop-touch-init
loop-touch-init c = record { fills = Fills-none _; takes = rw c.new-list.ensures.items tt }

pub take_request-requires : goal.take_request-requires
take_request-requires c =
    let grows = c.loop-touch.invariant.fills.grows in
    record {
      touch = at_item (TouchFits c.loop-touch.builder) c.args.takes.now c.loop-touch.touch-index c.touch-item.result (touches_kept c.args.builder.now c.loop-touch.builder grows c.args.takes.now c.requires.takes) c.loop-touch-test.true c.touch-item.is;
      zero = HasNet-stays _ _ _ _ grows c.requires.zero;
    }

pub loop-touch-preserved : goal.loop-touch-preserved
loop-touch-preserved c =
    let i = c.loop-touch.invariant in
    let e = c.in_ok-next.ensures in
    record {
      fills = Fills-join _ _ _ [] [] i.fills e.fills;
      takes = rw c.in_ok-push.ensures.items
          (zip_more (IsTake c.take_request.new.builder c.args.zero) c.args.takes.now c.loop-touch.list.items c.loop-touch.touch-index c.touch-item.result c.in_ok-next.next c.loop-touch-test.true c.touch-item.is
          (takes_stay _ _ c.args.zero _ c.loop-touch.list.items e.fills.grows i.takes) e.take);
    }
