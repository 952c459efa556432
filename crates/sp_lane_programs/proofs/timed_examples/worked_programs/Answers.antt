-- Each statement in turn.
use Rattle.std.proofs.Common.{refl, arith}
use Rattle.std.proofs.lemmas.Bool.{true≢false}
use Rattle.sp_tree.specs.ExampleStreams.{widely_copied}
use Rattle.sp_tree.specs.ExampleTransfers.{mixed_stages}
use Rattle.sp_sugar.specs.ExamplePrograms.{streamed, streamed_twice, early_slices}
use Rattle.sp_lane_programs.proofs.timed_examples.worked_programs.Goals as goal

pub returns-clause-mixed : goal.returns-clause-mixed
unfolding mixed_stages
returns-clause-mixed c = (tt, ((tt, (tt, (refl, (tt, ((tt, tt), (tt, tt)))))), (tt, tt)))

pub returns-clause-in_turn : goal.returns-clause-in_turn
unfolding streamed_twice
returns-clause-in_turn c = (tt, ((refl, (tt, (tt, (tt, ((tt, (tt, tt)), ((tt, tt), (tt, tt))))))), (tt, tt)))

pub returns-clause-streamed : goal.returns-clause-streamed
unfolding streamed
returns-clause-streamed c = λ h. true≢false h.1.0.0

pub returns-clause-gathered : goal.returns-clause-gathered
unfolding early_slices
returns-clause-gathered c = λ h. h.1.1.0.1.1.0

pub returns-clause-wide : goal.returns-clause-wide
unfolding widely_copied
returns-clause-wide c = λ h. (omega (arith, h.0.1.0))
