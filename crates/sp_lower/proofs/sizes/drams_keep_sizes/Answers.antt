use Rattle.sp_core.specs.Scope.{in_lanes}
use Rattle.sp_lower.proofs.KeptSizes.{drams_keep_sizes}
use Rattle.sp_lower.proofs.sizes.drams_keep_sizes.Goals as goal

pub returns : goal.returns
returns c core = drams_keep_sizes core (c.first_words_given.ensures core) (c.runs_are_allowed.ensures core) (c.runs_are_inside.ensures core) (c.runs_are_replayed.ensures core in_lanes core.root)
