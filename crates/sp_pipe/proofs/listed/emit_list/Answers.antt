use Rattle.std.proofs.Common.{[], ap, length, sym, subst, ◌∙◌}
use Rattle.sp_gates.proofs.Growing.{Fills-join, IsOne-stays}
use Rattle.sp_pipe.specs.Acts.{AreStages}
use Rattle.sp_pipe.specs.Right.{IsTaken}
use Rattle.sp_pipe.proofs.Kept.{acts_kept, ops_fit_kept}
use Rattle.sp_pipe.proofs.Pushing.{taken_of_all}
use Rattle.sp_pipe.proofs.listed.emit_list.Goals as goal

pub emit_ops-requires-clause-fits : goal.emit_ops-requires-clause-fits
emit_ops-requires-clause-fits c = ops_fit_kept _ _ c.in_ok-always.ensures.fills.grows c.args.ops.now c.requires.fits

pub operand-requires-clause-taken : goal.operand-requires-clause-taken
operand-requires-clause-taken c = taken_of_all c.args.ops.now _ _ _ _ (ap length c.deref.ensures.value ∙ c.in_ok-operations.ensures.each) c.requires.taken

pub operand-requires-clause-stages : goal.operand-requires-clause-stages
operand-requires-clause-stages c = subst (λ stages. AreStages c.emit_ops.new.builder stages c.args.ops.now) (sym c.deref.ensures.value) c.in_ok-operations.ensures.stages

pub operand-requires-clause-one : goal.operand-requires-clause-one
operand-requires-clause-one c = IsOne-stays _ _ _ c.in_ok-operations.ensures.fills.grows c.in_ok-always.ensures.one

pub returns-clause-fills : goal.returns-clause-fills
returns-clause-fills c = Fills-join _ _ _ [] [] c.in_ok-always.ensures.fills (Fills-join _ _ _ [] [] c.in_ok-operations.ensures.fills c.in_ok-word.ensures.fills)

pub returns-clause-acts : goal.returns-clause-acts
returns-clause-acts c = acts_kept _ _ c.in_ok-word.ensures.fills.grows _ _ _ _ c.in_ok-operations.ensures.acts
