use Rattle.std.proofs.Common.{◌≡◌, drop}
use Rattle.sp_core.specs.Plain.{plain_ops}
use Rattle.sp_lanes.specs.Combined.{meeting}
use Rattle.sp_unroll.proofs.combined.first_meeting.Given as goal

abbrev pub invariant-loop-op : goal.invariant-loop-op
invariant-loop-op l = meeting (plain_ops (drop l.op-index l.ops)) ≡ meeting (plain_ops l.ops)
