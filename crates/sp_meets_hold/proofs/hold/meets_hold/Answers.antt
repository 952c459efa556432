use Rattle.sp_core.specs.Events.{core_moments}
use Rattle.sp_core.specs.Meaning.{first_store}
use Rattle.sp_core.specs.Scope.{in_lanes}
use Rattle.sp_meets_hold.proofs.HoldWhole.{whole_met}
use Rattle.sp_meets_hold.proofs.hold.meets_hold.Goals as goal

pub returns : goal.returns
returns c core meets is_core right input turns h t fits went =
    let stay = c.symbols_stay.ensures core in_lanes h (first_store core input) is_core in
    whole_met core h stay.begun is_core c.met_accesses_stand.ensures c.groups_go_on.ensures meets right (first_store core input) (core_moments core in_lanes h)
    (c.runs_touch.ensures core is_core input turns h t fits went) stay.kept (c.events_have_spots.ensures core in_lanes h) (c.runs_are_traced.ensures core in_lanes h) (c.runs_are_apart.ensures core in_lanes h) (c.runs_go_up.ensures core in_lanes h)
