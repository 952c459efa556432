use Rattle.sp_words.proofs.TypeLemmas.{same_fix}
use Rattle.sp_words.proofs.laws.parts_make_the_type.Goals as goal

pub returns : goal.returns
returns c = same_fix
