use Rattle.std.proofs.Common.{[]}
use Rattle.sp_gates.proofs.Growing.{HasNet-stays, IsOne-stays, reserved}
use Rattle.sp_gates.specs.Tested.{is_on}
use Rattle.sp_xfer.proofs.Keeping.{was_on}
use Rattle.sp_xfer.proofs.moving.after.Goals as goal

pub drive_after-requires-clause-next : goal.drive_after-requires-clause-next
drive_after-requires-clause-next c = HasNet-stays _ _ _ _ c.in_ok-late.ensures.opens.grows c.requires.net

pub drive_after-requires-clause-one : goal.drive_after-requires-clause-one
drive_after-requires-clause-one c = IsOne-stays _ _ _ c.in_ok-late.ensures.opens.grows c.requires.one

pub returns-clause-fills : goal.returns-clause-fills
returns-clause-fills c = reserved _ _ _ _ [] c.in_ok-late.ensures.opens c.in_ok-drive_after.ensures.fills

pub returns-clause-net : goal.returns-clause-net
returns-clause-net c = HasNet-stays _ _ _ _ c.in_ok-drive_after.ensures.fills.grows c.in_ok-late.ensures.net

pub returns-clause-on : goal.returns-clause-on
returns-clause-on c = λ s r. was_on (is_on s c.in_ok-late.late) (is_on s c.args.net) (c.in_ok-drive_after.ensures.first s r) (c.in_ok-drive_after.ensures.later s r)
