use Rattle.sp_bank_words.proofs.Operations.{operations_go}
use Rattle.sp_bank_words.proofs.laws.operations_go.Goals as goal

pub returns : goal.returns
returns c = operations_go
