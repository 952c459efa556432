-- What the channels do in a cycle.
use Rattle.std.specs.Prelude.{ℕ, ◌+◌, nat_lt, ◌&&◌, if◌then◌else◌, List, length, slice_index, slice_index_or, slice_set}
use Rattle.sp_netlist.specs.Cells.{PlainCell, load_unit, store_unit}
use Rattle.sp_netlist.specs.Signals.{Phase, idle, asks, next_phase}

-- the phases, and how many of the delays were taken
pub record Channels : Type 0 where
  pub phases : List Phase
  pub taken : ℕ

-- one channel, at its words of REQ and LAST
abbrev pub served : List ℕ → Channels → ℕ → ℕ → ℕ → Channels
served delays s channel request last = record {
  phases = slice_set s.phases channel (next_phase (slice_index_or s.phases channel idle) request last (slice_index delays s.taken));
  taken = if asks (slice_index_or s.phases channel idle) request last && nat_lt s.taken (length delays) then s.taken + 1 else s.taken;
}

abbrev pub serve_one : (ℕ → ℕ) → List ℕ → Channels → PlainCell → Channels
serve_one w delays s (load_unit channel dram ready net request last addr) = served delays s channel (w request) (w last)
serve_one w delays s (store_unit channel dram ready request last addr word) = served delays s channel (w request) (w last)
serve_one w delays s cell = s
