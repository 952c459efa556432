use Rattle.std.proofs.Common.{◌≡◌, ◌≤◌, drop}
use Rattle.sp_core.specs.Plain.{plain_ops}
use Rattle.sp_lanes.specs.Combined.{count_up_to}
use Rattle.sp_unroll.specs.Words.{last_after}
use Rattle.sp_unroll.proofs.combined.count_up_to.Given as goal

abbrev pub invariant-loop-i : goal.invariant-loop-i
invariant-loop-i l = record {
  inside : l.count ≤ l.i;
  count : last_after l.word l.count l.i (plain_ops (drop l.i l.ops)) ≡ count_up_to l.word (plain_ops l.ops);
}
