use Rattle.std.proofs.Common.{[], ◌∷◌}
use Rattle.sp_gates.proofs.Growing.{Fills-join, HasNet-stays, IsOne-stays, reserved}
use Rattle.sp_sequence.proofs.Waiting.{awaits_kept}
use Rattle.sp_worked_beats.proofs.Standing.{awaits_past, is_other, two_slots_fit, step_apart, turned}
use Rattle.sp_worked_beats.proofs.worked.two_slots.Goals as goal

pub hold-requires-clause-enable : goal.hold-requires-clause-enable
hold-requires-clause-enable c = HasNet-stays _ _ _ _ c.in_ok-zero.ensures.fills.grows (c.in_ok-always.ensures.one.net_stands)

pub hold-requires-2-clause-next : goal.hold-requires-2-clause-next
hold-requires-2-clause-next c = HasNet-stays _ _ _ _ c.in_ok-step.ensures.opens.grows (HasNet-stays _ _ _ _ c.in_ok-start.ensures.fills.grows (c.in_ok-zero.ensures.net))

pub hold-requires-3-clause-enable : goal.hold-requires-3-clause-enable
hold-requires-3-clause-enable c = HasNet-stays _ _ _ _ c.in_ok-second.ensures.fills.grows (c.in_ok-step.ensures.net)

pub child-requires : goal.child-requires
child-requires c = IsOne-stays _ _ _ c.in_ok-more.ensures.fills.grows (IsOne-stays _ _ _ c.in_ok-second.ensures.fills.grows (IsOne-stays _ _ _ c.in_ok-step.ensures.opens.grows (IsOne-stays _ _ _ c.in_ok-start.ensures.fills.grows (IsOne-stays _ _ _ c.in_ok-zero.ensures.fills.grows (c.in_ok-always.ensures.one)))))

pub child-requires-2 : goal.child-requires-2
child-requires-2 c = IsOne-stays _ _ _ c.in_ok-a.ensures.opens.grows (IsOne-stays _ _ _ c.in_ok-more.ensures.fills.grows (IsOne-stays _ _ _ c.in_ok-second.ensures.fills.grows (IsOne-stays _ _ _ c.in_ok-step.ensures.opens.grows (IsOne-stays _ _ _ c.in_ok-start.ensures.fills.grows (IsOne-stays _ _ _ c.in_ok-zero.ensures.fills.grows (c.in_ok-always.ensures.one))))))

pub emit-requires : goal.emit-requires
emit-requires c = record {
  start = HasNet-stays _ _ _ _ c.in_ok-b.ensures.opens.grows (HasNet-stays _ _ _ _ c.in_ok-a.ensures.opens.grows (HasNet-stays _ _ _ _ c.in_ok-more.ensures.fills.grows (HasNet-stays _ _ _ _ c.in_ok-second.ensures.fills.grows (HasNet-stays _ _ _ _ c.in_ok-step.ensures.opens.grows (c.in_ok-start.ensures.net)))));
  more = HasNet-stays _ _ _ _ c.in_ok-b.ensures.opens.grows (HasNet-stays _ _ _ _ c.in_ok-a.ensures.opens.grows (c.in_ok-more.ensures.net));
  step = awaits_past _ _ _ _ c.in_ok-b.ensures.opens (awaits_past _ _ _ _ c.in_ok-a.ensures.opens (awaits_kept _ _ _ _ c.in_ok-more.ensures.fills (awaits_kept _ _ _ _ c.in_ok-second.ensures.fills (c.in_ok-step.ensures.awaits))));
  slots = two_slots_fit _ _ c.in_ok-a.a c.in_ok-b.b c.in_ok-slots.ensures (awaits_past _ _ _ _ c.in_ok-b.ensures.opens c.in_ok-a.ensures.start) (HasNet-stays _ _ _ _ c.in_ok-b.ensures.opens.grows (c.in_ok-a.ensures.done)) c.in_ok-b.ensures.start c.in_ok-b.ensures.done (is_other _ _ _ _ c.in_ok-b.ensures.opens c.in_ok-a.ensures.start);
  apart = step_apart _ c.in_ok-a.a c.in_ok-b.b _ c.in_ok-slots.ensures (is_other _ _ _ _ c.in_ok-a.ensures.opens (awaits_kept _ _ _ _ c.in_ok-more.ensures.fills (awaits_kept _ _ _ _ c.in_ok-second.ensures.fills (c.in_ok-step.ensures.awaits)))) (is_other _ _ _ _ c.in_ok-b.ensures.opens (awaits_past _ _ _ _ c.in_ok-a.ensures.opens (awaits_kept _ _ _ _ c.in_ok-more.ensures.fills (awaits_kept _ _ _ _ c.in_ok-second.ensures.fills (c.in_ok-step.ensures.awaits)))));
}

pub returns-clause-fills : goal.returns-clause-fills
returns-clause-fills c = Fills-join _ _ _ [] [] c.in_ok-always.ensures.fills (Fills-join _ _ _ [] [] c.in_ok-zero.ensures.fills (Fills-join _ _ _ [] [] c.in_ok-start.ensures.fills (reserved _ _ _ _ [] c.in_ok-step.ensures.opens (Fills-join _ _ _ [] (_ ∷ []) c.in_ok-second.ensures.fills (Fills-join _ _ _ [] (_ ∷ []) c.in_ok-more.ensures.fills (reserved _ _ _ _ (_ ∷ []) c.in_ok-a.ensures.opens (reserved _ _ _ _ (_ ∷ _ ∷ []) c.in_ok-b.ensures.opens (turned _ _ _ c.in_ok-a.a c.in_ok-b.b _ c.in_ok-slots.ensures c.in_ok-ends.ensures.fills))))))))
