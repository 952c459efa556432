use Rattle.std.proofs.Common.{[]}
use Rattle.sp_gates.proofs.Growing.{Fills-join, HasNet-stays}
use Rattle.sp_gates.proofs.Running.{runs_earlier}
use Rattle.sp_ring.proofs.Going.{moved_is}
use Rattle.sp_ring.proofs.places.moved.Goals as goal

pub choose-requires-2-clause-choice : goal.choose-requires-2-clause-choice
choose-requires-2-clause-choice c =
    HasNet-stays _ _ _ _ c.in_ok-zero.ensures.fills.grows (HasNet-stays _ _ _ _ c.in_ok-going.ensures.fills.grows (HasNet-stays _ _ _ _ c.in_ok-next.ensures.fills.grows c.requires.fresh))

pub returns-clause-fills : goal.returns-clause-fills
returns-clause-fills c =
    Fills-join _ _ _ [] [] c.in_ok-next.ensures.fills (Fills-join _ _ _ [] [] c.in_ok-going.ensures.fills (Fills-join _ _ _ [] [] c.in_ok-zero.ensures.fills c.in_ok-net.ensures.fills))

pub returns-clause-word : goal.returns-clause-word
returns-clause-word c = λ s run t below.
    let third = runs_earlier _ _ s c.in_ok-net.ensures.fills.grows run in
    let second = runs_earlier _ _ s c.in_ok-zero.ensures.fills.grows third in
    let first = runs_earlier _ _ s c.in_ok-going.ensures.fills.grows second in
    moved_is c.args.len (s.net t c.args.place) (s.net t c.in_ok-next.next) (s.net t c.in_ok-going.going) (s.net t c.in_ok-zero.zero) (s.net t c.in_ok-net.net) (s.net t c.args.fresh) (s.net t c.args.on)
    (c.in_ok-next.ensures.word s first t below) (c.in_ok-going.ensures.word s second t) (c.in_ok-zero.ensures.word s third t) (c.in_ok-net.ensures.word s run t)

pub choose-requires-2-clause-right : goal.choose-requires-2-clause-right
choose-requires-2-clause-right c = HasNet-stays _ _ _ _ c.in_ok-zero.ensures.fills.grows c.in_ok-going.ensures.net
