use Rattle.std.proofs.Common.{◌≡◌, ◌++◌, map, drop}
use Rattle.sp_core.specs.Plain.{plain_node, plain_stage_list, plain_mem}
use Rattle.sp_patterns.specs.Indices.{rows_of}
use Rattle.sp_patterns.specs.Patterns.{node_forms, stages_forms, node_lengths, stages_lengths}
use Rattle.sp_patterns.specs.Ranges.{plain_around}
use Rattle.sp_patterns.proofs.walk.+add_node.Given as goal

abbrev pub decreases-add_node : goal.decreases-add_node
decreases-add_node l = goal.size-add_node l

-- what stands so far, and what the stages that are left give
abbrev pub invariant-loop-stage : goal.invariant-loop-stage
invariant-loop-stage l = record {
  rows : rows_of l.rows.items ++ stages_forms (map plain_mem l.mems) (plain_around l.within) (plain_stage_list (drop l.stage-index l.stage-items))
      ≡ rows_of l.fn.rows.items ++ node_forms (map plain_mem l.fn.mems) (plain_around l.fn.around) (plain_node l.fn.node);
  lengths : l.lengths.items ++ stages_lengths (map plain_mem l.mems) (plain_around l.within) (plain_stage_list (drop l.stage-index l.stage-items))
      ≡ l.fn.lengths.items ++ node_lengths (map plain_mem l.fn.mems) (plain_around l.fn.around) (plain_node l.fn.node);
}
