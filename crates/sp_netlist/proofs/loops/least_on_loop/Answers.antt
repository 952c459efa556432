use Rattle.std.proofs.Common.{subst, take_all}
use Rattle.sp_netlist.specs.Cells.{plain_cells}
use Rattle.sp_netlist.specs.Tables.{IsLeastOrNone}
use Rattle.sp_netlist.specs.CellGraph.{IsComputedOnLoop}
use Rattle.sp_netlist.proofs.CellGraphSteps.{looped_more}
use Rattle.sp_netlist.proofs.loops.least_on_loop.Goals as goal

pub loop-place-preserved : goal.loop-place-preserved
loop-place-preserved c =
    looped_more c.args.cells.now c.args.graph.now c.args.numbers.now c.loop-place.place c.index-cells-place.result c.loop-place.least c.net_on_loop.result _ c.loop-place-test.true c.index-cells-place.is c.loop-place.invariant c.net_on_loop.ensures c.least_of_two-least.ensures

pub returns : goal.returns
returns c =
    subst (λ cells. IsLeastOrNone (IsComputedOnLoop (plain_cells cells) c.args.graph.now c.args.numbers.now) c.loop-place.least) (take_all c.loop-place.place c.args.cells.now c.loop-place-test.false) c.loop-place.invariant
