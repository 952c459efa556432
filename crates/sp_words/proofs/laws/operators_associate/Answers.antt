use Rattle.sp_words.proofs.LawLemmas.{add-IsAssociative, mul-IsAssociativeAt, and-IsAssociative, or-IsAssociative, xor-IsAssociative}
use Rattle.sp_words.proofs.OrderLemmas.{min-IsAssociative, max-IsAssociative}
use Rattle.sp_words.proofs.laws.operators_associate.Goals as goal

pub returns-clause-sum : goal.returns-clause-sum
returns-clause-sum c = add-IsAssociative

pub returns-clause-product : goal.returns-clause-product
returns-clause-product c = mul-IsAssociativeAt

pub returns-clause-both : goal.returns-clause-both
returns-clause-both c = and-IsAssociative

pub returns-clause-either : goal.returns-clause-either
returns-clause-either c = or-IsAssociative

pub returns-clause-unlike : goal.returns-clause-unlike
returns-clause-unlike c = xor-IsAssociative

pub returns-clause-least : goal.returns-clause-least
returns-clause-least c = min-IsAssociative

pub returns-clause-greatest : goal.returns-clause-greatest
returns-clause-greatest c = max-IsAssociative
