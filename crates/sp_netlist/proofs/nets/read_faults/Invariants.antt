use Rattle.std.proofs.Common.{take}
use Rattle.std.specs.BTreeMap.{get}
use Rattle.std.specs.Ordering.{nat_cmp}
use Rattle.sp_netlist.specs.Tables.{IsLeastOrNone, wire_pairs, IsMissing, IsClash}
use Rattle.sp_netlist.proofs.nets.read_faults.Given as goal

abbrev pub invariant-loop-wire : goal.invariant-loop-wire
invariant-loop-wire l = record {
  missing : IsLeastOrNone (IsMissing (get nat_cmp l.widths) (wire_pairs (take l.wire-index l.read))) l.missing;
  clash : IsLeastOrNone (IsClash (get nat_cmp l.widths) (wire_pairs (take l.wire-index l.read))) l.clash;
}
