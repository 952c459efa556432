use Rattle.std.proofs.Common.{◌≡◌, ◌+◌, ◌*◌, ◌++◌, length, filter, flat_map, count_by, All}
use Rattle.sp_netlist.specs.Draft.{IsDraft}
use Rattle.sp_netlist.specs.Rules.{is_bank}
use Rattle.sp_taps.specs.Stores.{AreStores, AddsBanks, bank_cells}
use Rattle.sp_taps.specs.Wires.{Promises, AreInRows, AreWires, wires_of}
use Rattle.sp_taps.proofs.stores.add_stores.Given as goal

abbrev pub invariant-loop-i : goal.invariant-loop-i
invariant-loop-i l = record {
  draft : IsDraft l.builder;
  promises : Promises l.fn.builder l.builder (flat_map wires_of l.stores.items);
  each : length l.stores.items ≡ l.i;
  longer : length l.builder.promised ≡ length l.fn.builder.promised + 6 * l.i;
  rows : AreInRows (length l.fn.builder.promised) l.stores.items;
  wires : All (AreWires l.builder l.fn.width) l.stores.items;
  stores : AreStores l.builder l.fn.first l.fn.width l.fn.len l.stores.items;
  banks : filter is_bank l.builder.cells ≡ filter is_bank l.fn.builder.cells ++ bank_cells l.fn.first l.fn.width l.fn.len l.i;
  more : count_by is_bank l.builder.cells ≡ l.fn.first + l.i;
  cells : AddsBanks l.fn.builder l.builder;
}
