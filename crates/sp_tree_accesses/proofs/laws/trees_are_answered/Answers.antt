use Rattle.std.proofs.Common.{[]}
use Rattle.sp_core.specs.Around.{nothing}
use Rattle.sp_node_runs.specs.BodiesTold.{AreAnsweredInTime}
use Rattle.sp_tree_handed.specs.Lists.{lists_in}
use Rattle.sp_tree_accesses.proofs.Answering.{Holds, lists_hold}
use Rattle.sp_tree_accesses.proofs.Going.{zip_append}
use Rattle.sp_tree_accesses.proofs.Rules.{lists_right}
use Rattle.sp_tree_accesses.proofs.Told.{answered}
use Rattle.sp_tree_accesses.proofs.laws.trees_are_answered.Goals as goal

pub returns : goal.returns
returns c core plan s events last env child w copy acted accesses tree handed answers =
    let all = answered core copy c.rules_name_memories.ensures tree.draft s events last c.each_has_access.ensures (lists_in core.root 0) acted accesses tree.all (lists_right core core.root nothing [] 0 tree.right.nodes) tree.stand answers in
    (lists_hold core plan s (AreAnsweredInTime s events last) core.root [] env 0 0 child w acted handed [] [] (zip_append (Holds core plan s (AreAnsweredInTime s events last)) (lists_in core.root 0) [] acted [] all tt)).0
