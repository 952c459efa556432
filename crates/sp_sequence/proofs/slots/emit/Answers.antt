use Rattle.std.proofs.Common.{[], sym, subst}
use Rattle.sp_gates.specs.Grows.{Fills}
use Rattle.sp_gates.specs.Tested.{is_on}
use Rattle.sp_gates.proofs.Growing.{Fills-join, HasNet-stays}
use Rattle.sp_sequence.specs.Fits.{slot_starts, AreSlots}
use Rattle.sp_sequence.specs.Slots.{RunsSlots, AreFirsts}
use Rattle.sp_sequence.proofs.Waiting.{slots_kept, no_nets}
use Rattle.sp_sequence.proofs.slots.emit.Goals as goal

pub run_slots-requires-clause-cause : goal.run_slots-requires-clause-cause
run_slots-requires-clause-cause c = HasNet-stays _ _ _ _ c.in_ok-always.ensures.fills.grows (c.requires.start)

pub run_slots-requires-clause-slots : goal.run_slots-requires-clause-slots
run_slots-requires-clause-slots c = subst (AreSlots c.one.new.builder) (sym c.deref.ensures.value) (slots_kept _ _ [] _ c.in_ok-always.ensures.fills (no_nets _) c.requires.slots)

pub returns-clause-fills : goal.returns-clause-fills
returns-clause-fills c = Fills-join _ _ _ [] _ c.in_ok-always.ensures.fills (subst (λ xs. Fills c.one.new.builder c.run_slots.new.builder (slot_starts xs)) c.deref.ensures.value c.in_ok-made.ensures.fills)

pub returns-clause-firsts : goal.returns-clause-firsts
returns-clause-firsts c = subst (λ xs. AreFirsts c.run_slots.new.builder xs c.in_ok-made.made.firsts.items) c.deref.ensures.value c.in_ok-made.ensures.firsts

pub returns-clause-runs : goal.returns-clause-runs
returns-clause-runs c = λ s r. subst (λ xs. RunsSlots s (is_on s c.args.part.now.start) xs c.in_ok-made.made.firsts.items (is_on s c.in_ok-made.made.done)) c.deref.ensures.value (c.in_ok-made.ensures.runs s r)
