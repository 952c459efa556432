use Rattle.std.proofs.Common.{◌==◌, [], ap, ◌∙◌}
use Rattle.sp_gates.proofs.Growing.{Fills-join, HasNet-stays}
use Rattle.sp_gates.proofs.Running.{runs_earlier}
use Rattle.sp_gates.proofs.OnLemmas.{turned_on}
use Rattle.sp_gates.proofs.tested.on_not.Goals as goal

pub choose-requires-clause-choice : goal.choose-requires-clause-choice
choose-requires-clause-choice c = HasNet-stays _ _ _ _ c.in_ok-one.ensures.fills.grows (HasNet-stays _ _ _ _ c.in_ok-zero.ensures.fills.grows c.requires)

pub choose-requires-clause-left : goal.choose-requires-clause-left
choose-requires-clause-left c = HasNet-stays _ _ _ _ c.in_ok-one.ensures.fills.grows c.in_ok-zero.ensures.net

pub returns-clause-fills : goal.returns-clause-fills
returns-clause-fills c = Fills-join _ _ _ [] [] c.in_ok-zero.ensures.fills (Fills-join _ _ _ [] [] c.in_ok-one.ensures.fills c.in_ok-net.ensures.fills)

pub returns-clause-on : goal.returns-clause-on
returns-clause-on c = λ s run t.
    let last = runs_earlier _ _ s c.in_ok-net.ensures.fills.grows run in
    let middle = runs_earlier _ _ s c.in_ok-one.ensures.fills.grows last in
    ap (λ n. n == 1) (c.in_ok-net.ensures.word s run t)
    ∙ turned_on (s.net t c.args.a) (s.net t c.in_ok-zero.zero) (s.net t c.in_ok-one.one) (c.in_ok-zero.ensures.word s middle t) (c.in_ok-one.ensures.word s last t)
