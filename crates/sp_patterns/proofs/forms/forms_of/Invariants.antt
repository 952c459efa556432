use Rattle.std.proofs.Common.{◌≡◌, length, map, drop}
use Rattle.sp_core.specs.Plain.{plain_ops, plain_mem}
use Rattle.sp_patterns.specs.Forms.{forms_of, forms_after, HaveCounters}
use Rattle.sp_patterns.proofs.forms.forms_of.Given as goal

abbrev pub invariant-loop-op : goal.invariant-loop-op
invariant-loop-op l = record {
  forms : forms_after (map plain_mem l.mems) (plain_ops l.ops) l.mask l.places l.forms.items (plain_ops (drop l.op-index l.ops)) ≡ forms_of (map plain_mem l.mems) (plain_ops l.ops) l.mask l.places;
  counters : HaveCounters (length l.places) l.forms.items;
}
