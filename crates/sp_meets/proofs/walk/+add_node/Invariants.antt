use Rattle.std.proofs.Common.{◌≡◌, ◌++◌, ◌+◌, drop}
use Rattle.sp_core.specs.CoreParts.{plain_core}
use Rattle.sp_core.specs.Numbering.{number_count, number_count_in}
use Rattle.sp_core.specs.Plain.{plain_node, plain_stage_list}
use Rattle.sp_meets.specs.Plain.{plain_level, plain_path, plain_spots}
use Rattle.sp_meets.specs.Spots.{node_spots, stages_spots}
use Rattle.sp_meets.proofs.walk.+add_node.Given as goal

abbrev pub decreases-add_node : goal.decreases-add_node
decreases-add_node l = goal.size-add_node l

-- what stands so far, and what the stages that are left give
abbrev pub invariant-loop-stage : goal.invariant-loop-stage
invariant-loop-stage l = record {
  number : l.found.number + number_count_in (plain_stage_list (drop l.stage-index l.stage-items)) ≡ l.fn.found.number + number_count (plain_node l.fn.node);
  spots : plain_spots l.found.spots.items ++ stages_spots (plain_core l.core) (plain_path l.path) (plain_level l.level) l.around.items l.part l.found.number (plain_stage_list (drop l.stage-index l.stage-items))
      ≡ plain_spots l.fn.found.spots.items ++ node_spots (plain_core l.fn.core) (plain_path l.fn.path) l.fn.places l.fn.found.number (plain_node l.fn.node);
}
