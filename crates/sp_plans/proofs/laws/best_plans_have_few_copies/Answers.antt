use Rattle.sp_plans.proofs.FewCopies.{few_copies}
use Rattle.sp_plans.proofs.laws.best_plans_have_few_copies.Goals as goal

pub returns : goal.returns
returns c core meets schemes nodes ok best m = few_copies c.divided_slots_are_finest.ensures core meets c.stages_are_in_place.ensures schemes nodes m ok best
