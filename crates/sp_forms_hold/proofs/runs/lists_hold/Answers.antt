use Rattle.sp_forms_hold.proofs.RunsHolding.{list_holds}
use Rattle.sp_forms_hold.proofs.runs.lists_hold.Goals as goal

pub returns : goal.returns
returns c core outside around scope n st ops s t es memories right stands placed fits e =
    list_holds core (c.lists_fit.ensures core) (c.stores_fit.ensures.symbols core) c.accesses_are_at_their_forms.ensures (c.parts_stand_at_their_numbers.ensures core) memories outside around scope n st placed ops right stands s t es fits e
