use Rattle.sp_netlist.proofs.DraftLemmas.{IsDraft-none}
use Rattle.sp_netlist.proofs.builder.Builder.new.Goals as goal

pub invariant_of-result : goal.invariant_of-result
invariant_of-result c = rw (c.new.ensures.items, c.new-2.ensures.items) IsDraft-none

pub returns-clause-draft : goal.returns-clause-draft
returns-clause-draft c = rw (c.new.ensures.items, c.new-2.ensures.items) IsDraft-none
