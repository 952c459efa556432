use Rattle.std.proofs.Common.{◌≡◌, ◌&&◌, not, ℕ, [], ◌∷◌, sym, ap, subst, ◌∙◌}
use Rattle.sp_gates.specs.Grows.{Fills}
use Rattle.sp_gates.specs.Tested.{is_on}
use Rattle.sp_gates.proofs.Growing.{Fills-join, HasNet-stays, IsOne-stays}
use Rattle.sp_gates.proofs.Running.{runs_earlier}
use Rattle.sp_sequence.specs.Fits.{slot_starts, AreSlots}
use Rattle.sp_sequence.specs.Slots.{AreFirsts}
use Rattle.sp_sequence.proofs.SlotLemmas.{firsts_stay}
use Rattle.sp_sequence.proofs.Waiting.{slots_kept, no_nets, awaits_kept, awaits_beside}
use Rattle.sp_beats.specs.Beats.{StartsSlots, some_comes, slots_over}
use Rattle.sp_beats.proofs.Keeping.{awaited, steps_on}
use Rattle.sp_beats.proofs.emitting.emit.Goals as goal

pub run_slots-requires-clause-start : goal.run_slots-requires-clause-start
run_slots-requires-clause-start c = HasNet-stays _ _ _ _ c.in_ok-always.ensures.fills.grows (c.requires.start)

pub run_slots-requires-clause-step : goal.run_slots-requires-clause-step
run_slots-requires-clause-step c = HasNet-stays _ _ _ _ c.in_ok-always.ensures.fills.grows (awaited _ _ _ c.requires.step)

pub run_slots-requires-clause-comes : goal.run_slots-requires-clause-comes
run_slots-requires-clause-comes c = HasNet-stays _ _ _ _ c.in_ok-always.ensures.fills.grows (c.requires.more)

pub run_slots-requires-clause-slots : goal.run_slots-requires-clause-slots
run_slots-requires-clause-slots c = subst (AreSlots c.one.new.builder) (sym c.deref.ensures.value) (slots_kept _ _ [] _ c.in_ok-always.ensures.fills (no_nets _) c.requires.slots)

pub on_both-requires-clause-left : goal.on_both-requires-clause-left
on_both-requires-clause-left c = HasNet-stays _ _ _ _ c.in_ok-run.ensures.fills.grows (HasNet-stays _ _ _ _ c.in_ok-always.ensures.fills.grows (awaited _ _ _ c.requires.step))

pub emit_end-requires-clause-all : goal.emit_end-requires-clause-all
emit_end-requires-clause-all c = HasNet-stays _ _ _ _ c.in_ok-first.ensures.fills.grows (c.in_ok-run.ensures.over_net)

pub emit_end-requires-clause-one : goal.emit_end-requires-clause-one
emit_end-requires-clause-one c = IsOne-stays _ _ _ c.in_ok-first.ensures.fills.grows (IsOne-stays _ _ _ c.in_ok-run.ensures.fills.grows (c.in_ok-always.ensures.one))

pub on_either-requires-clause-left : goal.on_either-requires-clause-left
on_either-requires-clause-left c = HasNet-stays _ _ _ _ c.in_ok-end.ensures.fills.grows (HasNet-stays _ _ _ _ c.in_ok-first.ensures.fills.grows (HasNet-stays _ _ _ _ c.in_ok-run.ensures.fills.grows (HasNet-stays _ _ _ _ c.in_ok-always.ensures.fills.grows (c.requires.start))))

pub on_not-requires : goal.on_not-requires
on_not-requires c = HasNet-stays _ _ _ _ c.in_ok-next.ensures.fills.grows (HasNet-stays _ _ _ _ c.in_ok-end.ensures.fills.grows (HasNet-stays _ _ _ _ c.in_ok-first.ensures.fills.grows (c.in_ok-run.ensures.comes_net)))

pub on_both-requires-2-clause-left : goal.on_both-requires-2-clause-left
on_both-requires-2-clause-left c = HasNet-stays _ _ _ _ c.in_ok-none.ensures.fills.grows (HasNet-stays _ _ _ _ c.in_ok-next.ensures.fills.grows (HasNet-stays _ _ _ _ c.in_ok-end.ensures.fills.grows (HasNet-stays _ _ _ _ c.in_ok-first.ensures.fills.grows (HasNet-stays _ _ _ _ c.in_ok-run.ensures.fills.grows (HasNet-stays _ _ _ _ c.in_ok-always.ensures.fills.grows (awaited _ _ _ c.requires.step))))))

pub drive_after-requires-clause-net : goal.drive_after-requires-clause-net
drive_after-requires-clause-net c = awaits_kept _ _ _ _ c.in_ok-done.ensures.fills (awaits_kept _ _ _ _ c.in_ok-none.ensures.fills (awaits_kept _ _ _ _ c.in_ok-next.ensures.fills (awaits_kept _ _ _ _ c.in_ok-end.ensures.fills (awaits_kept _ _ _ _ c.in_ok-first.ensures.fills (awaits_beside _ _ _ _ (slot_starts c.args.part.now.slots.items) (subst (λ xs. Fills c.one.new.builder c.run_slots.new.builder (slot_starts xs)) c.deref.ensures.value c.in_ok-run.ensures.fills) c.requires.apart (awaits_kept _ _ _ _ c.in_ok-always.ensures.fills c.requires.step))))))

pub drive_after-requires-clause-next : goal.drive_after-requires-clause-next
drive_after-requires-clause-next c = HasNet-stays _ _ _ _ c.in_ok-done.ensures.fills.grows (HasNet-stays _ _ _ _ c.in_ok-none.ensures.fills.grows (c.in_ok-next.ensures.net))

pub drive_after-requires-clause-one : goal.drive_after-requires-clause-one
drive_after-requires-clause-one c = IsOne-stays _ _ _ c.in_ok-done.ensures.fills.grows (IsOne-stays _ _ _ c.in_ok-none.ensures.fills.grows (IsOne-stays _ _ _ c.in_ok-next.ensures.fills.grows (IsOne-stays _ _ _ c.in_ok-end.ensures.fills.grows (IsOne-stays _ _ _ c.in_ok-first.ensures.fills.grows (IsOne-stays _ _ _ c.in_ok-run.ensures.fills.grows (c.in_ok-always.ensures.one))))))

pub returns-clause-fills : goal.returns-clause-fills
returns-clause-fills c = Fills-join _ _ _ [] _ c.in_ok-always.ensures.fills (Fills-join _ _ _ (slot_starts c.args.part.now.slots.items) (c.args.part.now.step ∷ []) (subst (λ xs. Fills c.one.new.builder c.run_slots.new.builder (slot_starts xs)) c.deref.ensures.value c.in_ok-run.ensures.fills) (Fills-join _ _ _ [] _ c.in_ok-first.ensures.fills (Fills-join _ _ _ [] _ c.in_ok-end.ensures.fills (Fills-join _ _ _ [] _ c.in_ok-next.ensures.fills (Fills-join _ _ _ [] _ c.in_ok-none.ensures.fills (Fills-join _ _ _ [] _ c.in_ok-done.ensures.fills (c.in_ok-drive_after.ensures.fills)))))))

pub returns-clause-done : goal.returns-clause-done
returns-clause-done c = HasNet-stays _ _ _ _ c.in_ok-drive_after.ensures.fills.grows (c.in_ok-done.ensures.net)

pub returns-clause-firsts : goal.returns-clause-firsts
returns-clause-firsts c = firsts_stay _ _ _ _ c.in_ok-drive_after.ensures.fills.grows (firsts_stay _ _ _ _ c.in_ok-done.ensures.fills.grows (firsts_stay _ _ _ _ c.in_ok-none.ensures.fills.grows (firsts_stay _ _ _ _ c.in_ok-next.ensures.fills.grows (firsts_stay _ _ _ _ c.in_ok-end.ensures.fills.grows (firsts_stay _ _ _ _ c.in_ok-first.ensures.fills.grows (subst (λ xs. AreFirsts c.run_slots.new.builder xs c.in_ok-run.run'.firsts.items) c.deref.ensures.value c.in_ok-run.ensures.firsts))))))

pub returns-clause-runs : goal.returns-clause-runs
returns-clause-runs c = λ s r.
    let r_done = runs_earlier _ _ s c.in_ok-drive_after.ensures.fills.grows r in
    let r_none = runs_earlier _ _ s c.in_ok-done.ensures.fills.grows r_done in
    let r_next = runs_earlier _ _ s c.in_ok-none.ensures.fills.grows r_none in
    let r_end = runs_earlier _ _ s c.in_ok-next.ensures.fills.grows r_next in
    let r_first = runs_earlier _ _ s c.in_ok-end.ensures.fills.grows r_end in
    let r_run = runs_earlier _ _ s c.in_ok-first.ensures.fills.grows r_first in
    let comes : (t : ℕ) → is_on s c.in_ok-run.run'.comes t ≡ some_comes (is_on s c.args.part.now.start) (is_on s c.args.part.now.step) (is_on s c.args.part.now.more) c.args.part.now.slots.items t = λ t. c.in_ok-run.ensures.comes s r_run t ∙ ap (λ xs. some_comes (is_on s c.args.part.now.start) (is_on s c.args.part.now.step) (is_on s c.args.part.now.more) xs t) c.deref.ensures.value in
    let over : (t : ℕ) → is_on s c.in_ok-run.run'.over t ≡ slots_over (is_on s c.args.part.now.start) (is_on s c.args.part.now.step) s (is_on s c.args.part.now.more) c.args.part.now.slots.items t = λ t. c.in_ok-run.ensures.over s r_run t ∙ ap (λ xs. slots_over (is_on s c.args.part.now.start) (is_on s c.args.part.now.step) s (is_on s c.args.part.now.more) xs t) c.deref.ensures.value in
    record {
      steps = steps_on (is_on s c.args.part.now.start) (is_on s c.args.part.now.step) (some_comes (is_on s c.args.part.now.start) (is_on s c.args.part.now.step) (is_on s c.args.part.now.more) c.args.part.now.slots.items) (slots_over (is_on s c.args.part.now.start) (is_on s c.args.part.now.step) s (is_on s c.args.part.now.more) c.args.part.now.slots.items) (is_on s c.in_ok-run.run'.comes) (is_on s c.in_ok-run.run'.over) (is_on s c.in_ok-first.first) (is_on s c.in_ok-end.end) (is_on s c.in_ok-next.next)
          comes over (c.in_ok-first.ensures.on s r_first) (c.in_ok-end.ensures.end s r_end) (c.in_ok-next.ensures.on s r_next) (c.in_ok-drive_after.ensures.first s r) (c.in_ok-drive_after.ensures.later s r);
      starts = subst (λ xs. StartsSlots (is_on s c.args.part.now.start) (is_on s c.args.part.now.step) s (is_on s c.args.part.now.more) xs c.in_ok-run.run'.firsts.items) c.deref.ensures.value (c.in_ok-run.ensures.starts s r_run);
      ends = λ t. c.in_ok-done.ensures.on s r_done t ∙ ap (λ b. is_on s c.args.part.now.step t && b) (c.in_ok-none.ensures.on s r_none t ∙ ap not (comes t));
    }
