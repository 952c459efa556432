use Rattle.std.proofs.Common.{◌≡◌, drop}
use Rattle.sp_core.specs.Plain.{plain_ops}
use Rattle.sp_lanes.specs.Shared.{does_change}
use Rattle.sp_unroll.proofs.shared.does_change.Given as goal

abbrev pub invariant-loop-op : goal.invariant-loop-op
invariant-loop-op l = does_change (plain_ops (drop l.op-index l.ops)) l.m ≡ does_change (plain_ops l.ops) l.m
