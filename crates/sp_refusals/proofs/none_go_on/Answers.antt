use Rattle.sp_refusals.proofs.Refusals.{none_go_on, none_elsewhere, end_too_early}
use Rattle.sp_refusals.proofs.none_go_on.Goals as goal

-- src/lib.rt:12:1
pub returns : goal.returns
returns c = record { with_token = none_go_on; elsewhere = none_elsewhere; at_end = end_too_early }
