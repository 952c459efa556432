use Rattle.std.proofs.Common.{[]}
use Rattle.sp_gates.proofs.Growing.{Fills-none, Fills-join}
use Rattle.sp_requests.specs.Requests.{TouchFits, IsRequest}
use Rattle.sp_requests.proofs.Kept.{at_item, touch_kept, requests_stay}
use Rattle.sp_requests.proofs.Zips.{zip_more}
use Rattle.sp_requests.proofs.locating.requests.Goals as goal

pub loop-touch-init : goal.loop-touch-init
loop-touch-init c = record { fills = Fills-none _; requests = rw c.new-list.ensures.items tt }

pub request-requires-clause-touch : goal.request-requires-clause-touch
request-requires-clause-touch c =
    touch_kept _ _ c.loop-touch.invariant.fills.grows c.args.layout.now c.touch-item.result
    (at_item (TouchFits c.args.builder.now c.args.layout.now) c.args.touches.now c.loop-touch.touch-index c.touch-item.result c.requires.touches c.loop-touch-test.true c.touch-item.is)

pub loop-touch-preserved : goal.loop-touch-preserved
loop-touch-preserved c =
    let i = c.loop-touch.invariant in
    let e = c.in_ok-next.ensures in
    record {
      fills = Fills-join _ _ _ [] [] i.fills e.fills;
      requests = rw c.in_ok-push.ensures.items
          (zip_more (IsRequest c.request.new.builder c.args.layout.now) c.args.touches.now c.loop-touch.list.items c.loop-touch.touch-index c.touch-item.result c.in_ok-next.next c.loop-touch-test.true c.touch-item.is
          (requests_stay _ _ c.args.layout.now _ c.loop-touch.list.items e.fills.grows i.requests) e.request);
    }
