use Rattle.std.proofs.Common.{[], ◌∷◌, List, All, subst, sym, arith}
use Rattle.sp_gates.proofs.Growing.{Fills-join, HasNet-stays, reserved}
use Rattle.sp_mem.proofs.Waiting.{awaits_kept}
use Rattle.sp_counters.specs.declared.part.Counter.{Counter}
use Rattle.sp_counters.specs.Fits.{CountFits, IsCounter}
use Rattle.sp_worked_parts.proofs.Fitting.{all_one}
use Rattle.sp_worked_parts.proofs.counted.looped.Goals as goal

pub emit-requires : goal.emit-requires
emit-requires c = record {
  start = HasNet-stays _ _ _ _ c.in_ok-step.ensures.opens.grows (HasNet-stays _ _ _ _ c.in_ok-until.ensures.fills.grows (HasNet-stays _ _ _ _ c.in_ok-from.ensures.fills.grows c.in_ok-start.ensures.net));
  step = c.in_ok-step.ensures.net;
  counts = all_one (CountFits c.reserve.new.builder) c.in_ok-counters.counters.items _ c.in_ok-counters.ensures.items (record {
    from = HasNet-stays _ _ _ _ c.in_ok-step.ensures.opens.grows (HasNet-stays _ _ _ _ c.in_ok-until.ensures.fills.grows c.in_ok-from.ensures.net);
    until = HasNet-stays _ _ _ _ c.in_ok-step.ensures.opens.grows c.in_ok-until.ensures.net;
    goes_on = omega arith;
    small = omega arith;
  });
}

pub body-requires-clause-start : goal.body-requires-clause-start
body-requires-clause-start c =
    HasNet-stays _ _ _ _ c.in_ok-counted.ensures.fills.grows
    (HasNet-stays _ _ _ _ c.in_ok-step.ensures.opens.grows (HasNet-stays _ _ _ _ c.in_ok-until.ensures.fills.grows (HasNet-stays _ _ _ _ c.in_ok-from.ensures.fills.grows c.in_ok-start.ensures.net)))

pub body-requires-clause-value : goal.body-requires-clause-value
body-requires-clause-value c =
    c.value_of-value.ensures c.emit.new.builder (subst (λ (cs : List Counter). All (IsCounter c.emit.new.builder) cs) (sym c.deref.ensures.value) c.in_ok-counted.ensures.nets.values)
    (HasNet-stays _ _ _ _ c.in_ok-counted.ensures.fills.grows (HasNet-stays _ _ _ _ c.in_ok-step.ensures.opens.grows (HasNet-stays _ _ _ _ c.in_ok-until.ensures.fills.grows c.in_ok-from.ensures.net)))

pub body-requires-clause-step : goal.body-requires-clause-step
body-requires-clause-step c = awaits_kept _ _ _ _ c.in_ok-counted.ensures.fills c.in_ok-step.ensures.awaits

pub returns-clause-fills : goal.returns-clause-fills
returns-clause-fills c =
    Fills-join _ _ _ [] [] c.in_ok-always.ensures.fills (Fills-join _ _ _ [] [] c.in_ok-start.ensures.fills (Fills-join _ _ _ [] [] c.in_ok-from.ensures.fills (Fills-join _ _ _ [] [] c.in_ok-until.ensures.fills
    (reserved _ _ _ c.in_ok-step.step [] c.in_ok-step.ensures.opens (Fills-join _ _ _ [] (c.in_ok-step.step ∷ []) c.in_ok-counted.ensures.fills c.in_ok-stored.ensures.fills)))))
