use Rattle.sp_words.proofs.LawLemmas.{add-IsCommutative, mul-IsCommutative, and-IsCommutative, or-IsCommutative, xor-IsCommutative}
use Rattle.sp_words.proofs.OrderLemmas.{min-IsCommutative, max-IsCommutative}
use Rattle.sp_words.proofs.laws.operators_commute.Goals as goal

pub returns-clause-sum : goal.returns-clause-sum
returns-clause-sum c = add-IsCommutative

pub returns-clause-product : goal.returns-clause-product
returns-clause-product c = mul-IsCommutative

pub returns-clause-both : goal.returns-clause-both
returns-clause-both c = and-IsCommutative

pub returns-clause-either : goal.returns-clause-either
returns-clause-either c = or-IsCommutative

pub returns-clause-unlike : goal.returns-clause-unlike
returns-clause-unlike c = xor-IsCommutative

pub returns-clause-least : goal.returns-clause-least
returns-clause-least c = min-IsCommutative

pub returns-clause-greatest : goal.returns-clause-greatest
returns-clause-greatest c = max-IsCommutative
