use Rattle.sp_edges.proofs.LawLemmas.{pieces_joined, one_cut}
use Rattle.sp_edges.proofs.laws.texts_have_one_cut.Goals as goal

pub returns-clause-joined : goal.returns-clause-joined
returns-clause-joined c = pieces_joined

pub returns-clause-one : goal.returns-clause-one
returns-clause-one c = one_cut
