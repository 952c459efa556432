use Rattle.sp_words.proofs.LawLemmas.{add-KeepsWrapping, sub-KeepsWrapping, mul-KeepsWrapping}
use Rattle.sp_words.proofs.laws.wrapping_is_kept.Goals as goal

pub returns-clause-sum : goal.returns-clause-sum
returns-clause-sum c = add-KeepsWrapping

pub returns-clause-difference : goal.returns-clause-difference
returns-clause-difference c = sub-KeepsWrapping

pub returns-clause-product : goal.returns-clause-product
returns-clause-product c = mul-KeepsWrapping
