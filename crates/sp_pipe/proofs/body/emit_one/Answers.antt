use Rattle.std.proofs.Common.{[], length, slice_index, sym, subst, arith}
use Rattle.sp_gates.specs.Nets.{HasNet}
use Rattle.sp_gates.proofs.Growing.{Fills-join, HasNet-stays, IsOne-stays}
use Rattle.sp_pipe.specs.Values.{taken_width}
use Rattle.sp_pipe.proofs.Kept.{acts_kept, computed_kept, op_fits_kept, operands_kept, stages_kept}
use Rattle.sp_pipe.proofs.WordLemmas.{stage_at}
use Rattle.sp_pipe.proofs.body.emit_one.Goals as goal

pub add_access-requires-clause-stages : goal.add_access-requires-clause-stages
add_access-requires-clause-stages c = stages_kept _ _ c.in_ok-operands.ensures.fills.grows _ _ c.requires.stages

pub add_access-requires-clause-one : goal.add_access-requires-clause-one
add_access-requires-clause-one c = IsOne-stays _ _ _ c.in_ok-operands.ensures.fills.grows c.requires.one

pub add_access-requires-clause-acts : goal.add_access-requires-clause-acts
add_access-requires-clause-acts c = acts_kept _ _ c.in_ok-operands.ensures.fills.grows _ _ _ _ c.requires.acts

pub computed-requires-clause-act : goal.computed-requires-clause-act
computed-requires-clause-act c =
    (op_fits_kept _ _ c.in_ok-add_access.ensures.fills.grows _ _ (op_fits_kept _ _ c.in_ok-operands.ensures.fills.grows _ _ c.requires.fits)).act

pub computed-requires-clause-nets : goal.computed-requires-clause-nets
computed-requires-clause-nets c =
    let o = c.in_ok-operands.ensures.operands in
    rw c.deref-2.ensures.value (λ i l.
    let n = o.each in
    subst (λ k. HasNet c.add_access.new.builder (slice_index c.in_ok-operands.operands.items i) (taken_width c.args.op.now.act c.args.op.now.ty k i)) (sym n) (HasNet-stays _ _ _ _ c.in_ok-add_access.ensures.fills.grows (o.nets i (omega (arith, n, l)))))

pub computed-requires-clause-one : goal.computed-requires-clause-one
computed-requires-clause-one c = IsOne-stays _ _ _ c.in_ok-add_access.ensures.fills.grows (IsOne-stays _ _ _ c.in_ok-operands.ensures.fills.grows c.requires.one)

pub under_mask-requires-clause-fits : goal.under_mask-requires-clause-fits
under_mask-requires-clause-fits c =
    op_fits_kept _ _ c.in_ok-given.ensures.fills.grows _ _ (op_fits_kept _ _ c.in_ok-add_access.ensures.fills.grows _ _ (op_fits_kept _ _ c.in_ok-operands.ensures.fills.grows _ _ c.requires.fits))

pub under_mask-requires-clause-stages : goal.under_mask-requires-clause-stages
under_mask-requires-clause-stages c =
    stages_kept _ _ c.in_ok-given.ensures.fills.grows _ _ (stages_kept _ _ c.in_ok-add_access.ensures.fills.grows _ _ (stages_kept _ _ c.in_ok-operands.ensures.fills.grows _ _ c.requires.stages))

pub under_mask-requires-clause-one : goal.under_mask-requires-clause-one
under_mask-requires-clause-one c =
    IsOne-stays _ _ _ c.in_ok-given.ensures.fills.grows (IsOne-stays _ _ _ c.in_ok-add_access.ensures.fills.grows (IsOne-stays _ _ _ c.in_ok-operands.ensures.fills.grows c.requires.one))

pub returns-clause-fills : goal.returns-clause-fills
returns-clause-fills c =
    Fills-join _ _ _ [] [] c.in_ok-operands.ensures.fills (Fills-join _ _ _ [] [] c.in_ok-add_access.ensures.fills (Fills-join _ _ _ [] [] c.in_ok-given.ensures.fills c.in_ok-net.ensures.fills))

pub returns-clause-acts : goal.returns-clause-acts
returns-clause-acts c = acts_kept _ _ c.in_ok-net.ensures.fills.grows _ _ _ _ (acts_kept _ _ c.in_ok-given.ensures.fills.grows _ _ _ _ c.in_ok-add_access.ensures.acts)

pub returns-clause-stage : goal.returns-clause-stage
returns-clause-stage c =
    let a = c.in_ok-add_access.ensures.fills.grows in
    let b = c.in_ok-given.ensures.fills.grows in
    let g = c.in_ok-net.ensures.fills.grows in
    stage_at c.under_mask.new.builder c.args.builder.now c.args.ops.now (length c.args.stages.now) c.args.op.now c.requires.here c.in_ok-operands.operands.items c.requires.fits
    (operands_kept _ _ g _ _ _ _ (operands_kept _ _ b _ _ _ _ (operands_kept _ _ a _ _ _ _ c.in_ok-operands.ensures.operands))) c.in_ok-given.given c.in_ok-net.net c.time_of-time.result c.time_of-time.ensures c.in_ok-net.ensures.net
    (computed_kept _ _ g _ c.args.op.now _ _ c.deref-2.ensures.value c.in_ok-given.ensures.word) c.in_ok-net.ensures.word
