use Rattle.std.proofs.Common.{ℕ, ◌+◌, ◌/◌, ◌%◌, ◌<◌, List, length, take, flat_map, slice_index_or}
use Rattle.sp_netlist.specs.Signals.{Signals}
use Rattle.sp_gates.specs.Grows.{Fills}
use Rattle.sp_gates.specs.Runs.{RunsOn}
use Rattle.sp_taps.specs.declared.store.Store.{Store}
use Rattle.sp_taps.specs.Stores.{AreStores}
use Rattle.sp_taps.specs.Wires.{wires_of}
use Rattle.sp_requests.specs.declared.part.Request.{Request}
use Rattle.sp_stores.specs.Lines.{AreWriteLines, RunsLine, of_duplicate}
use Rattle.sp_stores.proofs.serving.serve_all.Given as goal

abbrev pub invariant-loop-j : goal.invariant-loop-j
invariant-loop-j l = record {
  fills : Fills l.fn.builder l.builder (flat_map wires_of (take l.j l.stores));
  runs : (writes : List Request) → AreWriteLines l.fn.builder l.banks writes l.ports → (first len : ℕ) → AreStores l.fn.builder first l.fn.width len l.stores
      → (s : Signals) → RunsOn s l.builder.cells → (j : ℕ) (other : Store) → j < l.j
      → RunsLine s (first + j) len (slice_index_or l.stores j other) (j % length l.ports / l.banks) (j % length l.ports % l.banks) writes (of_duplicate (j / length l.ports) l.reads);
}
