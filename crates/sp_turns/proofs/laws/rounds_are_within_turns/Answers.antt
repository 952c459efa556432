use Rattle.sp_turns.proofs.Whole.{within_turns}
use Rattle.sp_turns.proofs.laws.rounds_are_within_turns.Goals as goal

pub returns : goal.returns
returns c p h = within_turns p h
