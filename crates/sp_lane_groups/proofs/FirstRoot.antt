-- The tree of the core of a program, at the place outside of all nodes.
use Rattle.std.proofs.Common.{ℕ, ◌+◌, ◌*◌, ◌≤◌, sym, arith}
use Rattle.std.proofs.lemmas.Bool.{true≢false}
use Rattle.sp_tree.specs.Invariant.{IsProgram}
use Rattle.sp_tree.specs.PlainProgram.{PlainProgram}
use Rattle.sp_core.specs.PlainCore.{PlainCore}
use Rattle.sp_sugar.specs.Core.{core_of}
use Rattle.sp_sugar.proofs.Cores.{core_is_right}
use Rattle.sp_lanes.specs.Order.{memory_order}
use Rattle.sp_lane_rules.specs.Copies.{occurrences, copies_in}
use Rattle.sp_lane_rules.proofs.CopiesCounts.{are_counted}
use Rattle.sp_lane_cores.proofs.LanedMarked.{programs_laned}
use Rattle.sp_lane_groups.proofs.LiveCopies.{copies_stand}
use Rattle.sp_lane_groups.specs.PlainNodes.{IsNodePlain}
use Rattle.sp_lane_rules.proofs.UnrolledPlaces.{outside_together}
use Rattle.sp_lane_groups.specs.FirstLaws.{RootStands}
use Rattle.sp_lane_groups.proofs.FirstWhole.{reset_first}

enough : (core : PlainCore) (m : ℕ) → (0 + 1) * copies_in core.root m ≤ occurrences m (memory_order core)
enough core m = omega (arith, are_counted core m)

pub root_stands : (p : PlainProgram) → IsNodePlain (core_of p).root → IsProgram p → RootStands p
root_stands p plain h = record {
  together = outside_together (core_of p);
  copies = (copies_stand (core_of p)).0;
  owned_before = λ m e. absurd (true≢false (sym e));
  enough = enough (core_of p);
  right = (core_is_right p h).nodes;
  laned = programs_laned p h;
  plain = plain;
  resets = reset_first p h;
}
