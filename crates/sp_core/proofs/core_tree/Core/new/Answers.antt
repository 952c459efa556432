use Rattle.std.proofs.Common.{sym, ◌∙◌}
use Rattle.sp_core.proofs.ShownLemmas.{shown}
use Rattle.sp_core.proofs.core_tree.Core.new.Goals as goal

pub invariant_of-result : goal.invariant_of-result
invariant_of-result c = (shown _).0 (sym c.in_ok-node.ensures.place ∙ c.in-None.is)

pub returns-in-None-clause-right : goal.returns-in-None-clause-right
returns-in-None-clause-right c = (shown _).0 (sym c.in_ok-node.ensures.place ∙ c.in-None.is)
