use Rattle.std.proofs.Common.{subst}
use Rattle.std.specs.BTreeMap.{get}
use Rattle.std.specs.Ordering.{nat_cmp}
use Rattle.sp_netlist.specs.Cells.{plain_cells}
use Rattle.sp_netlist.specs.Tables.{IsLeastOrNone}
use Rattle.sp_netlist.specs.CellGraph.{IsComputedOnLoop}
use Rattle.sp_netlist.proofs.CellGraphSteps.{computed_once}
use Rattle.sp_netlist.proofs.CellGraphs.{least_looped, ranked_none}
use Rattle.sp_netlist.proofs.loops.least_loop.Goals as goal

pub cell_graph-requires-clause-once : goal.cell_graph-requires-clause-once
cell_graph-requires-clause-once c = computed_once (plain_cells c.args.cells.now) c.requires

pub returns-clause-looped : goal.returns-clause-looped
returns-clause-looped c =
    least_looped (plain_cells c.args.cells.now) c.in_ok-graph.graph c.in_ok-numbers.numbers.items c.least_on_loop.result (computed_once (plain_cells c.args.cells.now) c.requires) c.in_ok-graph.ensures c.in_ok-numbers.ensures
    (subst (λ numbers. IsLeastOrNone (IsComputedOnLoop (plain_cells c.args.cells.now) c.in_ok-graph.graph numbers) c.least_on_loop.result) c.deref.ensures.value c.least_on_loop.ensures)

pub returns-clause-ranked : goal.returns-clause-ranked
returns-clause-ranked c =
    ranked_none (plain_cells c.args.cells.now) (get nat_cmp c.in_ok-places.places) c.in_ok-graph.graph c.in_ok-numbers.numbers.items c.least_on_loop.result (computed_once (plain_cells c.args.cells.now) c.requires) c.in_ok-places.ensures c.in_ok-graph.ensures c.in_ok-numbers.ensures
    (subst (λ numbers. IsLeastOrNone (IsComputedOnLoop (plain_cells c.args.cells.now) c.in_ok-graph.graph numbers) c.least_on_loop.result) c.deref.ensures.value c.least_on_loop.ensures)
