use Rattle.sp_edges.proofs.LawLemmas.{front_rest, take-front}
use Rattle.sp_edges.proofs.laws.beginnings_are_fronts.Goals as goal

pub returns-clause-only : goal.returns-clause-only
returns-clause-only c = front_rest

pub returns-clause-every : goal.returns-clause-every
returns-clause-every c = take-front
