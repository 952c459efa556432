use Rattle.sp_netlist.proofs.CellGraphSteps.{places_more}
use Rattle.sp_netlist.proofs.loops.computed_places.Goals as goal

pub loop-place-preserved : goal.loop-place-preserved
loop-place-preserved c =
    places_more c.args.cells.now c.loop-place.place c.index-cells-place.result _ _ c.loop-place-test.true c.index-cells-place.is c.loop-place.invariant c.in_ok-keep_place.ensures
