use Rattle.std.proofs.Common.{sym, ap, ◌∙◌}
use Rattle.sp_gen.specs.Draws.{moved}
use Rattle.sp_gen.proofs.DrawLemmas.{numbers_are, after_five}
use Rattle.sp_gen.proofs.draws.Draws.numbers.Goals as goal

pub returns-clause-state : goal.returns-clause-state
returns-clause-state c =
    c.draw-4.ensures.state ∙ ap moved (c.draw-offset.ensures.state ∙ ap moved (c.draw-3.ensures.state ∙ ap moved (c.draw-2.ensures.state ∙ ap moved c.draw.ensures.state)))
    ∙ sym (after_five _)

pub returns-clause-numbers : goal.returns-clause-numbers
returns-clause-numbers c =
    numbers_are _ _ _ _ _ _ _ _ _ _ _ c.draw.ensures.state c.draw-2.ensures.state c.draw-3.ensures.state c.draw-offset.ensures.state
    c.draw.ensures.value c.draw-2.ensures.value c.draw-3.ensures.value c.draw-offset.ensures.value c.draw-4.ensures.value c.combiner-combiner.ensures
