use Rattle.std.proofs.Common.{ap, refl}
use Rattle.sp_words.specs.declared.types.Ty.TheVariants.{Fix}
use Rattle.sp_words.proofs.TypeLemmas.{same_fix}
use Rattle.sp_words.proofs.types.Ty.int.Goals as goal

pub returns : goal.returns
returns c = ap Fix (same_fix _ _ refl refl refl)
