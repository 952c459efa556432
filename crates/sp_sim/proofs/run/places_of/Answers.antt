use Rattle.std.proofs.Common.{Contains}
use Rattle.sp_sim.proofs.RunLemmas.{same_cell}
use Rattle.sp_sim.proofs.run.places_of.Goals as goal

pub returns-clause-same : goal.returns-clause-same
returns-clause-same c =
    let s = c.args.step.now in
    same_cell (Contains c.args.nets.now) s.net s.first s.second s.third _ _ _ _ (c.place_in.ensures.found c.requires.stands.net) c.place_in-2.ensures.found c.place_in-3.ensures.found c.place_in-4.ensures.found s.task c.requires.stands.operands
