use Rattle.std.proofs.Common.{◌≡◌, ℕ, ◌+◌, ◌<◌, ◌++◌, length, filter, count_by}
use Rattle.sp_netlist.specs.Draft.{IsDraft}
use Rattle.sp_netlist.specs.Rules.{is_bank}
use Rattle.sp_core.specs.CoreParts.{plain_core}
use Rattle.sp_plan.specs.Plain.{plain_plan}
use Rattle.sp_taps.specs.Wires.{Promises}
use Rattle.sp_taps.specs.Stores.{AddsBanks}
use Rattle.sp_memory_nets.specs.ArrayBanks.{ArrayStands, array_cells, banks_before, bank_at, stores_at, wires_in}
use Rattle.sp_memory_nets.proofs.ArrayPushing.{AreApart}
use Rattle.sp_memory_nets.proofs.array_adding.add_arrays.Given as goal

abbrev pub invariant-loop-m : goal.invariant-loop-m
invariant-loop-m l = record {
  draft : IsDraft l.builder;
  promises : Promises l.fn.builder l.builder (wires_in l.arrays.items);
  each : length l.arrays.items ≡ l.m;
  bank : l.bank ≡ count_by is_bank l.builder.cells;
  before : l.bank ≡ l.fn.first + banks_before (plain_core l.core) (plain_plan l.plan) l.m;
  stand : (k : ℕ) → k < l.m → ArrayStands l.builder (plain_core l.core) (plain_plan l.plan) k (bank_at l.arrays.items k) (stores_at l.arrays.items k);
  numbers : (k : ℕ) → k < l.m → bank_at l.arrays.items k ≡ l.fn.first + banks_before (plain_core l.core) (plain_plan l.plan) k;
  apart : AreApart l.arrays.items l.m;
  banks : filter is_bank l.builder.cells ≡ filter is_bank l.fn.builder.cells ++ array_cells (plain_core l.core) (plain_plan l.plan) l.fn.first l.m;
  cells : AddsBanks l.fn.builder l.builder;
}
