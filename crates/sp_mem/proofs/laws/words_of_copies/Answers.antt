use Rattle.sp_mem.proofs.CopyLemmas.{kept, last, unmade, made}
use Rattle.sp_mem.proofs.laws.words_of_copies.Goals as goal

pub returns : goal.returns
returns c = record { kept = kept; last = last; unmade = unmade; made = made }
