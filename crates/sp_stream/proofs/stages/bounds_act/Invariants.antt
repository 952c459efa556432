use Rattle.std.proofs.Common.{◌≡◌, drop, map}
use Rattle.std.specs.List.{list_any}
use Rattle.sp_core.specs.Plain.{plain_counter}
use Rattle.sp_stream.specs.Parts.{is_act}
use Rattle.sp_stream.specs.Proper.{acts_on, bound_ops}
use Rattle.sp_stream.proofs.stages.bounds_act.Given as goal

abbrev pub invariant-loop-counter : goal.invariant-loop-counter
invariant-loop-counter l = list_any (acts_on (is_act l.act) l.m) (bound_ops (map plain_counter (drop l.counter-index l.counters))) ≡ list_any (acts_on (is_act l.act) l.m) (bound_ops (map plain_counter l.counters))
