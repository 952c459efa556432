use Rattle.sp_scanned.proofs.Words.{name_front}
use Rattle.sp_scanned.proofs.Numbers.{number_front}
use Rattle.sp_scanned.proofs.words_are_tokens.Goals as goal

-- src/lib.rt:21:1
pub returns : goal.returns
returns c = record { name = λ w rest good stop. let f = name_front w rest good stop in (f.kind, f.token.named, f.fronts); number = number_front }
