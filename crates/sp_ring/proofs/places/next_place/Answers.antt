use Rattle.std.proofs.Common.{[], ◌+◌, ◌%◌, ◌^◌, ap, ◌∙◌}
use Rattle.sp_gates.proofs.Growing.{Fills-join, HasNet-stays}
use Rattle.sp_gates.proofs.Running.{runs_earlier}
use Rattle.sp_ring.proofs.Going.{sum_is, next_is}
use Rattle.sp_ring.proofs.places.next_place.Goals as goal

pub operate-requires-clause-left : goal.operate-requires-clause-left
operate-requires-clause-left c = rw c.unsigned.ensures.width (HasNet-stays _ _ _ _ c.in_ok-one.ensures.fills.grows c.requires.place)

pub operate-requires-clause-right : goal.operate-requires-clause-right
operate-requires-clause-right c = rw c.unsigned.ensures.width c.in_ok-one.ensures.net

pub choose-requires-clause-right : goal.choose-requires-clause-right
choose-requires-clause-right c =
    HasNet-stays _ _ _ _ c.in_ok-zero.ensures.fills.grows (HasNet-stays _ _ _ _ c.in_ok-last.ensures.fills.grows (rw c.unsigned.ensures.width at c.in_ok-more.ensures.net))

pub returns-clause-fills : goal.returns-clause-fills
returns-clause-fills c =
    Fills-join _ _ _ [] [] c.in_ok-one.ensures.fills
    (Fills-join _ _ _ [] [] c.in_ok-more.ensures.fills (Fills-join _ _ _ [] [] c.in_ok-last.ensures.fills (Fills-join _ _ _ [] [] c.in_ok-zero.ensures.fills c.in_ok-net.ensures.fills)))

pub returns-clause-word : goal.returns-clause-word
returns-clause-word c = λ s run t below.
    let fourth = runs_earlier _ _ s c.in_ok-net.ensures.fills.grows run in
    let third = runs_earlier _ _ s c.in_ok-zero.ensures.fills.grows fourth in
    let second = runs_earlier _ _ s c.in_ok-last.ensures.fills.grows third in
    let first = runs_earlier _ _ s c.in_ok-more.ensures.fills.grows second in
    next_is c.args.len (s.net t c.args.place) (s.net t c.in_ok-net.net) (s.net t c.in_ok-one.one) (s.net t c.in_ok-more.more) (s.net t c.in_ok-last.last) (s.net t c.in_ok-zero.zero) c.from.result
    c.requires.length.0 c.requires.length.1 below (c.in_ok-one.ensures.word s first t) c.from.ensures
    (c.in_ok-more.ensures.word s second t ∙ sum_is c.unsigned.result c.unsigned.ensures.sign (s.net t c.args.place) (s.net t c.in_ok-one.one) ∙ ap (λ w. (s.net t c.args.place + s.net t c.in_ok-one.one) % 2 ^ w) c.unsigned.ensures.width)
    (c.in_ok-last.ensures.word s third t) (c.in_ok-zero.ensures.word s fourth t) (c.in_ok-net.ensures.word s run t)

pub choose-requires-clause-choice : goal.choose-requires-clause-choice
choose-requires-clause-choice c = HasNet-stays _ _ _ _ c.in_ok-zero.ensures.fills.grows c.in_ok-last.ensures.bit.net_stands
