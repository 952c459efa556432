use Rattle.sp_machine.proofs.OneSlot.{one_slot_precedes}
use Rattle.sp_machine.proofs.laws.one_slot_comes_in_turn.Goals as goal

pub returns : goal.returns
returns c = one_slot_precedes
