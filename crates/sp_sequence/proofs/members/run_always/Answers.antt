use Rattle.std.proofs.Common.{refl}
use Rattle.sp_gates.specs.Tested.{is_on}
use Rattle.sp_gates.proofs.Growing.{HasNet-stays}
use Rattle.sp_sequence.proofs.Cycles.{is_after}
use Rattle.sp_sequence.proofs.members.run_always.Goals as goal

pub returns-clause-net : goal.returns-clause-net
returns-clause-net c = HasNet-stays _ _ _ _ c.in_ok-drive_after.ensures.fills.grows (c.requires.done)

pub returns-clause-starts : goal.returns-clause-starts
returns-clause-starts c = λ s r. is_after (is_on s c.args.child.now.start) (is_on s c.args.cause) (is_on s c.args.cause) (c.in_ok-drive_after.ensures.first s r) (c.in_ok-drive_after.ensures.later s r) (λ t. refl)

pub returns-clause-over : goal.returns-clause-over
returns-clause-over c = λ s r t. refl
