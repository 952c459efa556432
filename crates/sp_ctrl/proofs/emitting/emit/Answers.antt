use Rattle.std.proofs.Common.{[], sym, subst}
use Rattle.sp_gates.specs.Grows.{Fills}
use Rattle.sp_gates.proofs.Growing.{Fills-join}
use Rattle.sp_ctrl.specs.Fits.{PartFits, starts_of}
use Rattle.sp_ctrl.proofs.Waiting.{branch_kept, fsm_kept}
use Rattle.sp_ctrl.proofs.emitting.emit.Goals as goal

pub branch-builder-requires-clause-fits : goal.branch-builder-requires-clause-fits
branch-builder-requires-clause-fits c = branch_kept _ _ _ _ _ _ _ c.in_ok-one.ensures.fills (subst (PartFits c.args.builder.now) c.in-Branch.is c.requires)

pub fsm-requires-clause-fits : goal.fsm-requires-clause-fits
fsm-requires-clause-fits c = fsm_kept _ _ _ _ _ _ _ _ c.in_ok-one.ensures.fills (subst (PartFits c.args.builder.now) c.in-Fsm.is c.requires)

pub returns-in_ok-done-in-Branch-clause-fills : goal.returns-in_ok-done-in-Branch-clause-fills
returns-in_ok-done-in-Branch-clause-fills c =
    subst (λ p. Fills c.args.builder.now c.branch-builder.new.builder (starts_of p)) (sym c.in-Branch.is) (Fills-join _ _ _ [] _ c.in_ok-one.ensures.fills c.in_ok-done-in-Branch.ensures.fills)

pub returns-in_ok-done-in-Fsm-clause-fills : goal.returns-in_ok-done-in-Fsm-clause-fills
returns-in_ok-done-in-Fsm-clause-fills c =
    subst (λ p. Fills c.args.builder.now c.fsm.new.builder (starts_of p)) (sym c.in-Fsm.is) (Fills-join _ _ _ [] _ c.in_ok-one.ensures.fills c.in_ok-done-in-Fsm.ensures.fills)
