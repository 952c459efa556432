use Rattle.sp_tree.proofs.Turns.{decided_by_turns}
use Rattle.sp_tree.proofs.laws.turns_decide.Goals as goal

pub returns : goal.returns
returns c = decided_by_turns
