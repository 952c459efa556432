use Rattle.std.proofs.Common.{[], ◌&&◌, ◌||◌, ap, ap₂, ◌∙◌}
use Rattle.sp_gates.specs.Tested.{is_on}
use Rattle.sp_gates.proofs.Growing.{Fills-join, HasNet-stays}
use Rattle.sp_gates.proofs.Running.{runs_earlier}
use Rattle.sp_xfer.proofs.stores.reading.Goals as goal

pub on_both-requires-clause-left : goal.on_both-requires-clause-left
on_both-requires-clause-left c = HasNet-stays _ _ _ _ c.in_ok-some.ensures.fills.grows c.requires.start

pub on_not-requires : goal.on_not-requires
on_not-requires c = HasNet-stays _ _ _ _ c.in_ok-first.ensures.fills.grows (HasNet-stays _ _ _ _ c.in_ok-some.ensures.fills.grows c.requires.look.last)

pub on_both-requires-2-clause-left : goal.on_both-requires-2-clause-left
on_both-requires-2-clause-left c = HasNet-stays _ _ _ _ c.in_ok-before.ensures.fills.grows (HasNet-stays _ _ _ _ c.in_ok-first.ensures.fills.grows (HasNet-stays _ _ _ _ c.in_ok-some.ensures.fills.grows c.requires.look.more))

pub on_both-requires-3-clause-left : goal.on_both-requires-3-clause-left
on_both-requires-3-clause-left c = HasNet-stays _ _ _ _ c.in_ok-left.ensures.fills.grows (HasNet-stays _ _ _ _ c.in_ok-before.ensures.fills.grows (HasNet-stays _ _ _ _ c.in_ok-first.ensures.fills.grows (HasNet-stays _ _ _ _ c.in_ok-some.ensures.fills.grows c.requires.step)))

pub on_either-requires-clause-left : goal.on_either-requires-clause-left
on_either-requires-clause-left c = HasNet-stays _ _ _ _ c.in_ok-goes.ensures.fills.grows (HasNet-stays _ _ _ _ c.in_ok-left.ensures.fills.grows (HasNet-stays _ _ _ _ c.in_ok-before.ensures.fills.grows c.in_ok-first.ensures.net))

pub returns-clause-fills : goal.returns-clause-fills
returns-clause-fills c = Fills-join _ _ _ [] _ c.in_ok-some.ensures.fills (Fills-join _ _ _ [] _ c.in_ok-first.ensures.fills (Fills-join _ _ _ [] _ c.in_ok-before.ensures.fills (Fills-join _ _ _ [] _ c.in_ok-left.ensures.fills (Fills-join _ _ _ [] _ c.in_ok-goes.ensures.fills c.in_ok-read.ensures.fills))))

pub returns-clause-on : goal.returns-clause-on
returns-clause-on c = λ s r t.
    let r_goes = runs_earlier _ _ s c.in_ok-read.ensures.fills.grows r in
    let r_left = runs_earlier _ _ s c.in_ok-goes.ensures.fills.grows r_goes in
    let r_before = runs_earlier _ _ s c.in_ok-left.ensures.fills.grows r_left in
    let r_first = runs_earlier _ _ s c.in_ok-before.ensures.fills.grows r_before in
    let r_some = runs_earlier _ _ s c.in_ok-first.ensures.fills.grows r_first in
    c.in_ok-read.ensures.on s r t
    ∙ ap₂ (λ a b. a || b) (c.in_ok-first.ensures.on s r_first t ∙ ap (λ b. is_on s c.args.start t && b) (c.in_ok-some.ensures.on s r_some t))
    (c.in_ok-goes.ensures.on s r_goes t ∙ ap (λ b. is_on s c.args.step t && b) (c.in_ok-left.ensures.on s r_left t ∙ ap (λ b. is_on s c.args.look.now.counted.more t && b) (c.in_ok-before.ensures.on s r_before t)))
