use Rattle.sp_retyped.proofs.Back.{back}
use Rattle.sp_retyped.proofs.Quiet.{quiet}
use Rattle.sp_retyped.proofs.expressions_come_back.Goals as goal

-- src/lib.rt:8:1
pub returns : goal.returns
returns c = record {
  right = λ p scope here seen ask e x s t h a. quiet p scope here seen s t h ask a;
  back = λ p scope here seen e x s t h. back p scope here s.shown t h;
}
