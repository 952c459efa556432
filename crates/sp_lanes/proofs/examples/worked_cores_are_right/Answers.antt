-- Each is computed.
use Rattle.std.proofs.Common.{refl}
use Rattle.sp_lanes.specs.Examples as example
use Rattle.sp_lanes.specs.Order.{memories_in, memories_of}
use Rattle.sp_lanes.specs.Unrolled.{unrolled, node_in, left_as_they_are, nodes_in}
use Rattle.sp_lanes.proofs.examples.worked_cores_are_right.Goals as goal

pub returns-clause-one_more : goal.returns-clause-one_more
unfolding unrolled node_in left_as_they_are nodes_in memories_in memories_of example.one_more
returns-clause-one_more c = refl

pub returns-clause-shared_reads : goal.returns-clause-shared_reads
unfolding unrolled node_in left_as_they_are nodes_in memories_in memories_of example.shared_reads
returns-clause-shared_reads c = refl

pub returns-clause-fixed_reduced : goal.returns-clause-fixed_reduced
unfolding unrolled node_in left_as_they_are nodes_in memories_in memories_of example.fixed_reduced
returns-clause-fixed_reduced c = refl

pub returns-clause-memory_reduced : goal.returns-clause-memory_reduced
unfolding unrolled node_in left_as_they_are nodes_in memories_in memories_of example.memory_reduced_by_two
returns-clause-memory_reduced c = refl

pub returns-clause-nested : goal.returns-clause-nested
unfolding unrolled node_in left_as_they_are nodes_in memories_in memories_of example.nested
returns-clause-nested c = refl

pub returns-clause-machines : goal.returns-clause-machines
unfolding unrolled node_in left_as_they_are nodes_in memories_in memories_of example.machines
returns-clause-machines c = refl

pub returns-clause-numbered_anew : goal.returns-clause-numbered_anew
unfolding unrolled node_in left_as_they_are nodes_in memories_in memories_of example.numbered_anew
returns-clause-numbered_anew c = refl
