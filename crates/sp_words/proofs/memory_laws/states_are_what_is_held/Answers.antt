use Rattle.sp_words.proofs.MemoryLemmas.{held-update, held-update_other, update_last, update_apart, same_state}
use Rattle.sp_words.proofs.memory_laws.states_are_what_is_held.Goals as goal

pub returns-clause-changed : goal.returns-clause-changed
returns-clause-changed c = held-update

pub returns-clause-others : goal.returns-clause-others
returns-clause-others c = held-update_other

pub returns-clause-last : goal.returns-clause-last
returns-clause-last c = update_last

pub returns-clause-apart : goal.returns-clause-apart
returns-clause-apart c = update_apart

pub returns-clause-same : goal.returns-clause-same
returns-clause-same c = same_state
