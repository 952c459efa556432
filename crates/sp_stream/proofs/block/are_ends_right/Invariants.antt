use Rattle.std.proofs.Common.{◌≡◌, drop}
use Rattle.std.specs.List.{list_all}
use Rattle.sp_core.specs.CoreParts.{plain_core}
use Rattle.sp_core.specs.Plain.{plain_stage_list}
use Rattle.sp_stream.specs.Proper.{nodes_of, is_end_right}
use Rattle.sp_stream.proofs.block.are_ends_right.Given as goal

abbrev pub invariant-loop-m : goal.invariant-loop-m
invariant-loop-m l = list_all (is_end_right (plain_core l.core) (nodes_of (plain_stage_list l.stages))) (drop l.m-index l.owned) ≡ list_all (is_end_right (plain_core l.core) (nodes_of (plain_stage_list l.stages))) l.owned
