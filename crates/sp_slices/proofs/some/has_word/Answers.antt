use Rattle.std.proofs.Common.{[], All, sym, ap, subst, ◌∙◌}
use Rattle.sp_gates.proofs.Growing.{Fills-join}
use Rattle.sp_counters.specs.Counting.{have_values}
use Rattle.sp_counters.specs.Fits.{CountFits}
use Rattle.sp_slices.proofs.Standing.{counts_stay}
use Rattle.sp_slices.proofs.some.has_word.Goals as goal

pub all_have_values-requires-clause-counts : goal.all_have_values-requires-clause-counts
all_have_values-requires-clause-counts c = subst (All (CountFits c.one.new.builder)) (sym c.deref.ensures.value) (counts_stay _ _ _ c.in_ok-always.ensures.fills.grows c.requires.counts)

pub returns-clause-fills : goal.returns-clause-fills
returns-clause-fills c = Fills-join _ _ _ [] [] c.in_ok-always.ensures.fills c.in_ok-word.ensures.fills

pub returns-clause-on : goal.returns-clause-on
returns-clause-on c = λ s r t. c.in_ok-word.ensures.on s r t ∙ ap (λ xs. have_values s xs t) c.deref.ensures.value
