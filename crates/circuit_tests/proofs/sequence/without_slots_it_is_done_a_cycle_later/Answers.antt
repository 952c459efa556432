use Rattle.std.proofs.Common.{sym, subst}
use Rattle.sp_sequence.specs.Fits.{AreSlots, no_slot}
use Rattle.circuit_tests.proofs.sequence.without_slots_it_is_done_a_cycle_later.Goals as goal

pub emit-requires : goal.emit-requires
emit-requires b c = record { start = c.in_ok-start.ensures.one.net_stands; slots = subst (AreSlots _) (sym c.new-slots.ensures.items) no_slot }
