use Rattle.std.proofs.Common.{◌≡◌, ◌∙◌, ℕ, ◌≤◌, sym, ap, subst, filter, length, slice_index, get_or}
use Rattle.std.specs.List.{range_with_len}
use Rattle.std.specs.List.Sorted.{IsPermutation, IsNonDecreasingBy}
use Rattle.std.proofs.lemmas.List.{with_items_is, length-map}
use Rattle.sp_graph.specs.Components.{AreComponents}
use Rattle.std.proofs.Common.{List}
use Rattle.sp_netlist.specs.Cells.{PlainCell, plain_cell, done_cell}
use Rattle.sp_netlist.specs.CellGraph.{IsCellGraph, ComputedOnce}
use Rattle.sp_netlist.specs.Rules.{is_computed}
use Rattle.sp_netlist.specs.Order.{IsOrder}
use Rattle.sp_netlist.specs.Draft.{driver_count}
use Rattle.sp_netlist.proofs.CellGraphSteps.{computed_once}
use Rattle.sp_netlist.proofs.Orders.{sorted_order}
use Rattle.sp_netlist.proofs.order.evaluation_order.Goals as goal

pub cell_graph-requires-clause-once : goal.cell_graph-requires-clause-once
cell_graph-requires-clause-once c = subst ComputedOnce (sym c.cells-cells.ensures.cells) (computed_once c.args.netlist.now c.cells-cells.ensures.netlist.driven_once)

abbrev computing_of : List PlainCell → ℕ → List ℕ
computing_of cells n = filter (λ at. is_computed (get_or cells at (done_cell 0))) (range_with_len 0 n)

pub returns : goal.returns
returns c =
    let cells = c.cells-cells.ensures.cells in
    let netlist = c.cells-cells.ensures.netlist in
    let items = with_items_is c.in_ok-order.order c.sort_by_number.new.places (c.sort_by_number.auto.places ∙ c.deref_mut.ensures.len) in
    let number = sym (length-map c.cells-cells.result.now plain_cell) ∙ ap length cells in
    let places = c.deref_mut.ensures.value ∙ c.in_ok-order.ensures ∙ ap (λ xs. computing_of xs (length c.cells-cells.result.now)) cells ∙ ap (computing_of c.args.netlist.now) number in
    subst (IsOrder c.args.netlist.now) (sym items)
    (sorted_order c.args.netlist.now netlist c.in_ok-graph.graph c.in_ok-numbers.numbers.items (computed_once c.args.netlist.now netlist.driven_once)
    (subst (λ xs. IsCellGraph xs c.in_ok-graph.graph) cells c.in_ok-graph.ensures) c.in_ok-numbers.ensures c.deref_mut.result.now c.sort_by_number.new.places places c.sort_by_number.ensures.permutation
    (subst (λ ns. IsNonDecreasingBy (λ at. slice_index ns at) c.sort_by_number.new.places) c.deref.ensures.value c.sort_by_number.ensures.sorted))
