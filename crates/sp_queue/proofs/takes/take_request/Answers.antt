use Rattle.std.proofs.Common.{refl}
use Rattle.sp_gates.proofs.Growing.{HasNet-stays}
use Rattle.sp_queue.proofs.takes.take_request.Goals as goal

pub returns-clause-take : goal.returns-clause-take
returns-clause-take c =
    let copy = c.in_ok-copy.ensures in
    let none = HasNet-stays _ _ _ _ copy.fills.grows c.requires.zero in
    record {
      fits = record { enable = HasNet-stays _ _ _ _ copy.fills.grows c.requires.touch.enable; copy = copy.net; bank = none; place = none };
      word = refl;
      duplicate = refl;
      bank = refl;
      copy = copy.word;
    }
