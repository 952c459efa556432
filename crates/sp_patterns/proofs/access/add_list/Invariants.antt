use Rattle.std.proofs.Common.{◌≡◌, ◌++◌, map, drop}
use Rattle.sp_core.specs.Plain.{plain_ops, plain_mem}
use Rattle.sp_patterns.specs.Forms.{forms_of}
use Rattle.sp_patterns.specs.Indices.{rows_of}
use Rattle.sp_patterns.specs.Patterns.{some_forms, list_forms}
use Rattle.sp_patterns.specs.Ranges.{plain_around}
use Rattle.sp_patterns.proofs.access.add_list.Given as goal

abbrev pub invariant-loop-op : goal.invariant-loop-op
invariant-loop-op l = record {
  known : l.known.forms.items ≡ forms_of (map plain_mem l.mems) (plain_ops l.ops) l.known.mask l.around.places.items;
  rows : rows_of l.rows.items ++ some_forms (map plain_mem l.mems) (plain_around l.around) (plain_ops l.ops) (plain_ops (drop l.op-index l.ops)) ≡ rows_of l.initial.rows.items ++ list_forms (map plain_mem l.mems) (plain_around l.around) (plain_ops l.ops);
}
