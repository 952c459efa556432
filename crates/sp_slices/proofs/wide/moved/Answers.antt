use Rattle.std.proofs.Common.{[], ap, ◌∙◌}
use Rattle.sp_words.specs.Words.{value_of, word_add}
use Rattle.sp_gates.proofs.Growing.{Fills-join}
use Rattle.sp_gates.proofs.Running.{runs_earlier}
use Rattle.sp_counters.specs.Fits.{wide_type}
use Rattle.sp_counters.proofs.WideLemmas.{wide_sum}
use Rattle.sp_slices.proofs.wide.moved.Goals as goal

pub returns-clause-fills : goal.returns-clause-fills
returns-clause-fills c = Fills-join _ _ _ [] [] c.in_ok-wide_net.ensures.fills (Fills-join _ _ _ [] [] c.in_ok-step.ensures.fills c.in_ok-sum.ensures.fills)

pub returns-clause-value : goal.returns-clause-value
returns-clause-value c = λ s r t l.
    let r1 = runs_earlier _ _ s c.in_ok-sum.ensures.fills.grows r in
    let r0 = runs_earlier _ _ s c.in_ok-step.ensures.fills.grows r1 in
    ap (value_of wide_type) (c.in_ok-sum.ensures.word s r t ∙ ap (λ a. word_add a (s.net t c.in_ok-wide_net.wide_net) (s.net t c.in_ok-step.step)) c.wide.ensures)
    ∙ wide_sum (s.net t c.args.net) (s.net t c.in_ok-step.step) (s.net t c.in_ok-wide_net.wide_net) c.args.more l (c.in_ok-wide_net.ensures.value s r0 t l) (c.in_ok-step.ensures.word s r1 t) c.requires.small
