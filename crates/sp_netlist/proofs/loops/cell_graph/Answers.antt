use Rattle.std.proofs.Common.{length, subst, sym, ◌∙◌, take_all}
use Rattle.std.proofs.lemmas.List.{length-map}
use Rattle.std.specs.BTreeMap.{get}
use Rattle.std.specs.Ordering.{nat_cmp}
use Rattle.sp_netlist.specs.Cells.{plain_cell, plain_cells}
use Rattle.sp_netlist.proofs.CellGraphSteps.{HasRows, IsCellGraph-rows, place_within, rows_more}
use Rattle.sp_netlist.proofs.loops.cell_graph.Goals as goal

pub link_cell-requires-clause-within : goal.link_cell-requires-clause-within
link_cell-requires-clause-within c = place_within c.args.cells.now (get nat_cmp c.args.places.now) (length c.loop-place.graph) c.requires.places c.loop-place.invariant.nodes

pub loop-place-preserved : goal.loop-place-preserved
loop-place-preserved c = record {
  nodes = c.in_ok-link_cell.ensures.same_nodes ∙ c.loop-place.invariant.nodes;
  rows = rows_more (get nat_cmp c.args.places.now) c.args.cells.now c.loop-place.place c.index-cells-place.result c.loop-place.graph c.link_cell.new.graph c.loop-place-test.true c.index-cells-place.is c.loop-place.invariant.rows c.in_ok-link_cell.ensures;
}

pub returns : goal.returns
returns c =
    IsCellGraph-rows (plain_cells c.args.cells.now) (get nat_cmp c.args.places.now) c.loop-place.graph c.requires.once c.requires.places
    (c.loop-place.invariant.nodes ∙ sym (length-map c.args.cells.now plain_cell))
    (subst (λ cells. HasRows (get nat_cmp c.args.places.now) (plain_cells cells) c.loop-place.graph) (take_all c.loop-place.place c.args.cells.now c.loop-place-test.false) c.loop-place.invariant.rows)
