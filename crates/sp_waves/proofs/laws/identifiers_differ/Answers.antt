use Rattle.sp_waves.proofs.IdentifierLemmas.{identifiers_differ}
use Rattle.sp_waves.proofs.laws.identifiers_differ.Goals as goal

pub returns : goal.returns
returns c = identifiers_differ
