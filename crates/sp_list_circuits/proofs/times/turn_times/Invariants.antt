use Rattle.std.proofs.Common.{◌≡◌, ℕ, ◌<◌, ◌^◌, length, slice_index}
use Rattle.sp_core.specs.CoreParts.{plain_core}
use Rattle.sp_core.specs.Plain.{plain_ops}
use Rattle.sp_node_runs.specs.BodiesLists.{turn_time}
use Rattle.sp_list_circuits.proofs.times.turn_times.Given as goal

abbrev pub invariant-loop-index : goal.invariant-loop-index
invariant-loop-index l = record {
  small : l.all < 2 ^ 32;
  all : l.all ≡ turn_time (plain_core l.core) (plain_ops l.ops) l.index;
  many : length l.times.items ≡ l.index;
  times : (k : ℕ) → k < l.index → slice_index l.times.items k ≡ turn_time (plain_core l.core) (plain_ops l.ops) k;
}
