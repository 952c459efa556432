use Rattle.std.proofs.Common.{◌≡◌, ◌++◌, drop}
use Rattle.sp_core.specs.Plain.{plain_ops}
use Rattle.sp_lanes.specs.Shared.{shared, shared_after}
use Rattle.sp_unroll.proofs.shared.shared.Given as goal

abbrev pub invariant-loop-op : goal.invariant-loop-op
invariant-loop-op l =
    l.all.items ++ shared_after l.counter l.own (plain_ops l.body) l.earlier.items (plain_ops (drop l.op-index l.body)) ≡ shared l.counter l.own (plain_ops l.body) (plain_ops l.body)
