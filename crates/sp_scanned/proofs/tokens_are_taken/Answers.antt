use Rattle.sp_scanned.proofs.Steps.{token_step, blank_step, line_step}
use Rattle.sp_scanned.proofs.tokens_are_taken.Goals as goal

-- src/lib.rt:14:1
pub returns : goal.returns
returns c = record {
  token = λ source before kind brackets ts bytes rest h f. token_step bytes rest h f;
  blank = λ source breaks before brackets ts rest h. blank_step rest h;
  line_end = λ source breaks before brackets ts rest h. line_step rest h;
}
