use Rattle.std.proofs.Common.{◌≡◌, ℕ, ◌<◌, ◌^◌, All, take}
use Rattle.std.specs.BTreeMap.{get}
use Rattle.std.specs.Ordering.{nat_cmp}
use Rattle.sp_netlist.specs.Draft.{net_count}
use Rattle.sp_netlist.specs.Tables.{IsLeastOrNone, latest, wire_pairs}
use Rattle.sp_netlist.proofs.nets.driver_widths.Given as goal

abbrev pub invariant-loop-wire : goal.invariant-loop-wire
invariant-loop-wire l = record {
  numbers : All (λ p. p.0 < 2 ^ 64) (wire_pairs (take l.wire-index l.driven));
  widths : (net : ℕ) → get nat_cmp l.widths net ≡ latest (wire_pairs (take l.wire-index l.driven)) net;
  twice : IsLeastOrNone (λ net. 1 < net_count (wire_pairs (take l.wire-index l.driven)) net) l.twice;
}
