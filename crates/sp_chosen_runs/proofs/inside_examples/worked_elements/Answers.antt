-- Each is computed.
use Rattle.std.proofs.Common.{refl}
use Rattle.std.proofs.lemmas.Bool.{false≢true}
use Rattle.sp_core.specs.ExampleTransfers.{copied}
use Rattle.sp_chosen_runs.proofs.inside_examples.worked_elements.Goals as goal

pub returns-clause-last : goal.returns-clause-last
unfolding copied
returns-clause-last c x = refl

pub returns-clause-past : goal.returns-clause-past
unfolding copied
returns-clause-past c h = absurd (false≢true (h refl))

pub returns-clause-no_index : goal.returns-clause-no_index
unfolding copied
returns-clause-no_index c h = absurd (false≢true (h refl))

pub returns-clause-no_element : goal.returns-clause-no_element
returns-clause-no_element c x = absurd (false≢true x)
