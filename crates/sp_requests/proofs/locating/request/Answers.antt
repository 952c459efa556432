use Rattle.std.proofs.Common.{[], refl}
use Rattle.sp_gates.proofs.Growing.{Fills-join, HasNet-stays}
use Rattle.sp_gates.proofs.Running.{runs_earlier}
use Rattle.sp_requests.proofs.Kept.{touch_kept}
use Rattle.sp_requests.proofs.locating.request.Goals as goal

pub locate-requires-clause-index : goal.locate-requires-clause-index
locate-requires-clause-index c = rw c.deref.ensures.value (touch_kept _ _ c.in_ok-copy.ensures.fills.grows c.args.layout.now c.args.touch.now c.requires.touch).index

pub returns-clause-fills : goal.returns-clause-fills
returns-clause-fills c = Fills-join _ _ _ [] [] c.in_ok-copy.ensures.fills c.in_ok-spot.ensures.fills

pub returns-clause-request : goal.returns-clause-request
returns-clause-request c =
    let copy = c.in_ok-copy.ensures in
    let grows = c.in_ok-spot.ensures.fills.grows in
    let spot = rw c.deref.ensures.value at c.in_ok-spot.ensures.spot in
    record {
      fits = record {
        enable = HasNet-stays _ _ _ _ grows (HasNet-stays _ _ _ _ copy.fills.grows c.requires.touch.enable);
        copy = HasNet-stays _ _ _ _ grows copy.net;
        bank = spot.bank_net;
        place = spot.place_net;
      };
      enable = refl;
      word = refl;
      duplicate = refl;
      copy = λ s run. copy.word s (runs_earlier _ _ s grows run);
      spot = spot;
    }
