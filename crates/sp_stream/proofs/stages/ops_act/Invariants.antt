use Rattle.std.proofs.Common.{◌≡◌, drop, map}
use Rattle.std.specs.List.{list_any}
use Rattle.sp_core.specs.Plain.{plain_op}
use Rattle.sp_stream.specs.Parts.{is_act}
use Rattle.sp_stream.specs.Proper.{acts_on}
use Rattle.sp_stream.proofs.stages.ops_act.Given as goal

abbrev pub invariant-loop-op : goal.invariant-loop-op
invariant-loop-op l = list_any (acts_on (is_act l.act) l.m) (map plain_op (drop l.op-index l.ops)) ≡ list_any (acts_on (is_act l.act) l.m) (map plain_op l.ops)
