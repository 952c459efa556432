use Rattle.std.proofs.Common.{◌≡◌, ◌++◌, map, drop, length}
use Rattle.sp_core.specs.Plain.{plain_ops}
use Rattle.sp_tree.specs.Plain.{plain_exprs, plain_mem}
use Rattle.sp_sugar.specs.Operations.{codes}
use Rattle.sp_operations.specs.Sources.{sources_of}
use Rattle.sp_operations.proofs.expressions.+push_code.Given as goal

abbrev pub invariant-push_codes-loop-e : goal.invariant-push_codes-loop-e
invariant-push_codes-loop-e l = record {
  ops :
      plain_ops l.ops.items ++ (codes (map plain_mem l.mems) (sources_of l.sources) (length (plain_ops l.ops.items)) (plain_exprs (drop l.e-index l.all))).ops
      ≡ plain_ops l.fn.ops.items ++ (codes (map plain_mem l.mems) (sources_of l.sources) (length (plain_ops l.fn.ops.items)) (plain_exprs l.all)).ops;
  words :
      l.places.items ++ (codes (map plain_mem l.mems) (sources_of l.sources) (length (plain_ops l.ops.items)) (plain_exprs (drop l.e-index l.all))).words
      ≡ (codes (map plain_mem l.mems) (sources_of l.sources) (length (plain_ops l.fn.ops.items)) (plain_exprs l.all)).words;
}
