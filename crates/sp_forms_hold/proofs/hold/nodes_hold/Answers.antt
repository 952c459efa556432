use Rattle.sp_forms_hold.proofs.HoldLists.{Known}
use Rattle.sp_forms_hold.proofs.HoldNodes.{node_holds}
use Rattle.sp_forms_hold.proofs.hold.nodes_hold.Goals as goal

pub returns : goal.returns
returns c core reading turns node outside earlier around scope k n st s t h memories right stands placed fits e =
    let known : Known core = record {
      memories = memories;
      lists_fit = c.lists_fit.ensures core;
      lists_hold = c.lists_hold.ensures core;
      slices_hold = c.slices_hold.ensures core;
      counts_hold = c.counts_hold.ensures core;
      entered = c.controllers_are_entered.ensures.inside core;
      parts = c.parts_stand_at_their_numbers.ensures core;
    } in
    node_holds core known reading turns node outside earlier around k n st scope s t h right stands placed fits e
