use Rattle.sp_scanned.proofs.Steps.{at_start, at_end}
use Rattle.sp_scanned.proofs.texts_are_scanned.Goals as goal

-- src/lib.rt:8:1
pub returns : goal.returns
returns c = record { beginning = at_start; end = λ source breaks before brackets ts h. at_end h }
