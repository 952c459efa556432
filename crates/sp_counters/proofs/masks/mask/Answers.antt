use Rattle.std.proofs.Common.{[], ap, ◌∙◌}
use Rattle.std.specs.Prelude.{int_lt}
use Rattle.sp_gates.proofs.Growing.{Fills-join}
use Rattle.sp_gates.proofs.Running.{runs_earlier}
use Rattle.sp_counters.specs.Counting.{number}
use Rattle.sp_counters.proofs.masks.mask.Goals as goal

pub returns-clause-fills : goal.returns-clause-fills
returns-clause-fills c = Fills-join _ _ _ [] [] c.in_ok-sum.ensures.fills c.in_ok-mask.ensures.fills

pub returns-clause-on : goal.returns-clause-on
returns-clause-on c = λ s r t.
    let r1 = runs_earlier _ _ s c.in_ok-mask.ensures.fills.grows r in
    let r0 = runs_earlier _ _ s c.in_ok-sum.ensures.fills.grows r1 in
    c.in_ok-mask.ensures.on s r t (c.requires.until.fits s r0 t) ∙ ap (λ z. int_lt z (number s c.args.counter.now.until t)) (c.in_ok-sum.ensures.value s r1 t (c.requires.value.fits s r0 t))
