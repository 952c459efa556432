use Rattle.std.proofs.Common.{[], ◌∷◌, sym}
use Rattle.sp_gates.proofs.Growing.{Fills-join, HasNet-stays, IsOne-stays, reserved}
use Rattle.sp_mem.proofs.Waiting.{awaits_kept, awaits_beside}
use Rattle.sp_worked_parts.proofs.Waiting.{child_beside, other_start, awaited_net, awaits_past, opened_other, none_of_four}
use Rattle.sp_worked_parts.proofs.machine.machine.Goals as goal

pub below-requires : goal.below-requires
below-requires c = HasNet-stays _ _ _ _ c.in_ok-start.ensures.fills.grows (HasNet-stays _ _ _ _ c.in_ok-always.ensures.fills.grows (awaited_net _ _ c.requires))

pub plus-requires : goal.plus-requires
plus-requires c = HasNet-stays _ _ _ _ c.in_ok-tested.ensures.fills.grows (HasNet-stays _ _ _ _ c.in_ok-start.ensures.fills.grows (HasNet-stays _ _ _ _ c.in_ok-always.ensures.fills.grows (awaited_net _ _ c.requires)))

pub child-requires : goal.child-requires
child-requires c = IsOne-stays _ _ _ c.in_ok-more.ensures.fills.grows (IsOne-stays _ _ _ c.in_ok-tested.ensures.fills.grows (IsOne-stays _ _ _ c.in_ok-start.ensures.fills.grows (c.in_ok-always.ensures.one)))

pub child-requires-2 : goal.child-requires-2
child-requires-2 c = IsOne-stays _ _ _ c.in_ok-next.ensures.opens.grows (IsOne-stays _ _ _ c.in_ok-more.ensures.fills.grows (IsOne-stays _ _ _ c.in_ok-tested.ensures.fills.grows (IsOne-stays _ _ _ c.in_ok-start.ensures.fills.grows (c.in_ok-always.ensures.one))))

pub child-requires-3 : goal.child-requires-3
child-requires-3 c = IsOne-stays _ _ _ c.in_ok-body.ensures.opens.grows (IsOne-stays _ _ _ c.in_ok-next.ensures.opens.grows (IsOne-stays _ _ _ c.in_ok-more.ensures.fills.grows (IsOne-stays _ _ _ c.in_ok-tested.ensures.fills.grows (IsOne-stays _ _ _ c.in_ok-start.ensures.fills.grows (c.in_ok-always.ensures.one)))))

pub child-requires-4 : goal.child-requires-4
child-requires-4 c = IsOne-stays _ _ _ c.in_ok-test.ensures.opens.grows (IsOne-stays _ _ _ c.in_ok-body.ensures.opens.grows (IsOne-stays _ _ _ c.in_ok-next.ensures.opens.grows (IsOne-stays _ _ _ c.in_ok-more.ensures.fills.grows (IsOne-stays _ _ _ c.in_ok-tested.ensures.fills.grows (IsOne-stays _ _ _ c.in_ok-start.ensures.fills.grows (c.in_ok-always.ensures.one))))))

pub done_of-requires : goal.done_of-requires
done_of-requires c =
    record {
      start_net = HasNet-stays _ _ _ _ c.in_ok-first.ensures.opens.grows (HasNet-stays _ _ _ _ c.in_ok-test.ensures.opens.grows (HasNet-stays _ _ _ _ c.in_ok-body.ensures.opens.grows (HasNet-stays _ _ _ _ c.in_ok-next.ensures.opens.grows (HasNet-stays _ _ _ _ c.in_ok-more.ensures.fills.grows (HasNet-stays _ _ _ _ c.in_ok-tested.ensures.fills.grows (c.in_ok-start.ensures.net))))));
      tested_net = HasNet-stays _ _ _ _ c.in_ok-first.ensures.opens.grows (HasNet-stays _ _ _ _ c.in_ok-test.ensures.opens.grows (HasNet-stays _ _ _ _ c.in_ok-body.ensures.opens.grows (HasNet-stays _ _ _ _ c.in_ok-next.ensures.opens.grows (HasNet-stays _ _ _ _ c.in_ok-more.ensures.fills.grows (c.in_ok-tested.ensures.net)))));
      first_child = c.in_ok-first.ensures.child;
      test_child = child_beside _ _ c.in_ok-test.test _ c.in_ok-first.ensures.opens (c.in_ok-test.ensures.child);
      body_child = child_beside _ _ c.in_ok-body.body _ c.in_ok-first.ensures.opens (child_beside _ _ c.in_ok-body.body _ c.in_ok-test.ensures.opens (c.in_ok-body.ensures.child));
      next_child = child_beside _ _ c.in_ok-next.next _ c.in_ok-first.ensures.opens (child_beside _ _ c.in_ok-next.next _ c.in_ok-test.ensures.opens (child_beside _ _ c.in_ok-next.next _ c.in_ok-body.ensures.opens (c.in_ok-next.ensures.child)));
      test_apart = λ e. other_start _ _ c.in_ok-test.test _ c.in_ok-first.ensures.opens (c.in_ok-test.ensures.child) (sym e);
      body_apart = λ e. other_start _ _ c.in_ok-body.body _ c.in_ok-first.ensures.opens (child_beside _ _ c.in_ok-body.body _ c.in_ok-test.ensures.opens (c.in_ok-body.ensures.child)) (sym e);
      body_test = λ e. other_start _ _ c.in_ok-body.body _ c.in_ok-test.ensures.opens (c.in_ok-body.ensures.child) (sym e);
      next_apart = λ e. other_start _ _ c.in_ok-next.next _ c.in_ok-first.ensures.opens (child_beside _ _ c.in_ok-next.next _ c.in_ok-test.ensures.opens (child_beside _ _ c.in_ok-next.next _ c.in_ok-body.ensures.opens (c.in_ok-next.ensures.child))) (sym e);
      next_test = λ e. other_start _ _ c.in_ok-next.next _ c.in_ok-test.ensures.opens (child_beside _ _ c.in_ok-next.next _ c.in_ok-body.ensures.opens (c.in_ok-next.ensures.child)) (sym e);
      next_body = λ e. other_start _ _ c.in_ok-next.next _ c.in_ok-body.ensures.opens (c.in_ok-next.ensures.child) (sym e);
    }

pub drive-requires-clause-net : goal.drive-requires-clause-net
drive-requires-clause-net c =
    awaits_beside _ _ _ _ (c.in_ok-first.first.start ∷ c.in_ok-test.test.start ∷ c.in_ok-body.body.start ∷ c.in_ok-next.next.start ∷ []) c.in_ok-done.ensures.fills
    (none_of_four _ _ _ _ _ (opened_other _ _ _ _ c.in_ok-first.ensures.opens (awaits_past _ _ _ _ c.in_ok-test.ensures.opens (awaits_past _ _ _ _ c.in_ok-body.ensures.opens (awaits_past _ _ _ _ c.in_ok-next.ensures.opens (awaits_kept _ _ _ _ c.in_ok-more.ensures.fills (awaits_kept _ _ _ _ c.in_ok-tested.ensures.fills (awaits_kept _ _ _ _ c.in_ok-start.ensures.fills (awaits_kept _ _ _ _ c.in_ok-always.ensures.fills (c.requires))))))))) (opened_other _ _ _ _ c.in_ok-test.ensures.opens (awaits_past _ _ _ _ c.in_ok-body.ensures.opens (awaits_past _ _ _ _ c.in_ok-next.ensures.opens (awaits_kept _ _ _ _ c.in_ok-more.ensures.fills (awaits_kept _ _ _ _ c.in_ok-tested.ensures.fills (awaits_kept _ _ _ _ c.in_ok-start.ensures.fills (awaits_kept _ _ _ _ c.in_ok-always.ensures.fills (c.requires)))))))) (opened_other _ _ _ _ c.in_ok-body.ensures.opens (awaits_past _ _ _ _ c.in_ok-next.ensures.opens (awaits_kept _ _ _ _ c.in_ok-more.ensures.fills (awaits_kept _ _ _ _ c.in_ok-tested.ensures.fills (awaits_kept _ _ _ _ c.in_ok-start.ensures.fills (awaits_kept _ _ _ _ c.in_ok-always.ensures.fills (c.requires))))))) (opened_other _ _ _ _ c.in_ok-next.ensures.opens (awaits_kept _ _ _ _ c.in_ok-more.ensures.fills (awaits_kept _ _ _ _ c.in_ok-tested.ensures.fills (awaits_kept _ _ _ _ c.in_ok-start.ensures.fills (awaits_kept _ _ _ _ c.in_ok-always.ensures.fills (c.requires)))))))
    (awaits_past _ _ _ _ c.in_ok-first.ensures.opens (awaits_past _ _ _ _ c.in_ok-test.ensures.opens (awaits_past _ _ _ _ c.in_ok-body.ensures.opens (awaits_past _ _ _ _ c.in_ok-next.ensures.opens (awaits_kept _ _ _ _ c.in_ok-more.ensures.fills (awaits_kept _ _ _ _ c.in_ok-tested.ensures.fills (awaits_kept _ _ _ _ c.in_ok-start.ensures.fills (awaits_kept _ _ _ _ c.in_ok-always.ensures.fills (c.requires)))))))))

pub drive-requires-clause-next : goal.drive-requires-clause-next
drive-requires-clause-next c = HasNet-stays _ _ _ _ c.in_ok-done.ensures.fills.grows (HasNet-stays _ _ _ _ c.in_ok-first.ensures.opens.grows (HasNet-stays _ _ _ _ c.in_ok-test.ensures.opens.grows (HasNet-stays _ _ _ _ c.in_ok-body.ensures.opens.grows (HasNet-stays _ _ _ _ c.in_ok-next.ensures.opens.grows (c.in_ok-more.ensures.net)))))

pub drive-requires-clause-enable : goal.drive-requires-clause-enable
drive-requires-clause-enable c = HasNet-stays _ _ _ _ c.in_ok-done.ensures.fills.grows ((child_beside _ _ c.in_ok-next.next _ c.in_ok-first.ensures.opens (child_beside _ _ c.in_ok-next.next _ c.in_ok-test.ensures.opens (child_beside _ _ c.in_ok-next.next _ c.in_ok-body.ensures.opens (c.in_ok-next.ensures.child)))).done)

pub returns-clause-fills : goal.returns-clause-fills
returns-clause-fills c =
    let first = c.in_ok-first.first.start in
    let test = c.in_ok-test.test.start in
    let body = c.in_ok-body.body.start in
    let next = c.in_ok-next.next.start in
    let y = c.args.y in
    Fills-join _ _ _ [] (y ∷ []) c.in_ok-always.ensures.fills (Fills-join _ _ _ [] (y ∷ []) c.in_ok-start.ensures.fills
    (Fills-join _ _ _ [] (y ∷ []) c.in_ok-tested.ensures.fills (Fills-join _ _ _ [] (y ∷ []) c.in_ok-more.ensures.fills
    (reserved _ _ _ next (y ∷ []) c.in_ok-next.ensures.opens (reserved _ _ _ body (next ∷ y ∷ []) c.in_ok-body.ensures.opens
    (reserved _ _ _ test (body ∷ next ∷ y ∷ []) c.in_ok-test.ensures.opens (reserved _ _ _ first (test ∷ body ∷ next ∷ y ∷ []) c.in_ok-first.ensures.opens
    (Fills-join _ _ _ (first ∷ test ∷ body ∷ next ∷ []) (y ∷ []) c.in_ok-done.ensures.fills c.in_ok-drive.ensures.fills))))))))

pub returns-clause-done : goal.returns-clause-done
returns-clause-done c = HasNet-stays _ _ _ _ c.in_ok-drive.ensures.fills.grows c.in_ok-done.ensures.done
