use Rattle.std.proofs.Common.{ℕ, ◌+◌, ◌<◌, take, flat_map, slice_index_or}
use Rattle.sp_netlist.specs.Signals.{Signals}
use Rattle.sp_gates.specs.Grows.{Fills}
use Rattle.sp_gates.specs.Runs.{RunsOn}
use Rattle.sp_taps.specs.declared.store.Store.{Store}
use Rattle.sp_taps.specs.Stores.{AreStores}
use Rattle.sp_taps.specs.Wires.{wires_of}
use Rattle.sp_queue_copies.specs.Events.{RunsQueue}
use Rattle.sp_queue_copies.proofs.copies.emit_copies.Given as goal

abbrev pub invariant-loop-i : goal.invariant-loop-i
invariant-loop-i l = record {
  fills : Fills l.fn.builder l.builder (flat_map wires_of (take l.i l.stores));
  runs : (first : ℕ) → AreStores l.fn.builder first l.fn.width l.fn.depth l.stores → (s : Signals) → RunsOn s l.builder.cells → (k : ℕ) (other : Store) → k < l.i
      → RunsQueue s (first + k) l.fn.depth (slice_index_or l.stores k other) k l.fresh l.puts l.takes;
}
