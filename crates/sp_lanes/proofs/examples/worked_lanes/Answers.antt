-- Each is computed.
use Rattle.std.proofs.Common.{refl}
use Rattle.sp_core.specs.ExampleLanes as given
use Rattle.sp_core.specs.ExampleTransfers as transfers
use Rattle.sp_lanes.specs.Examples as example
use Rattle.sp_lanes.specs.Order.{memories_in, memories_of}
use Rattle.sp_lanes.specs.Unrolled.{unrolled, node_in, left_as_they_are, nodes_in}
use Rattle.sp_lanes.proofs.examples.worked_lanes.Goals as goal

pub returns-clause-squares : goal.returns-clause-squares
unfolding unrolled node_in left_as_they_are nodes_in memories_in memories_of transfers.squares given.squares_in_lanes
returns-clause-squares c = refl

pub returns-clause-dot_product : goal.returns-clause-dot_product
unfolding unrolled node_in left_as_they_are nodes_in memories_in memories_of transfers.dot_product given.dot_product_in_lanes
returns-clause-dot_product c = refl

pub returns-clause-stores : goal.returns-clause-stores
unfolding unrolled node_in left_as_they_are nodes_in memories_in memories_of transfers.overlapping_stores given.stores_in_lanes
returns-clause-stores c = refl

pub returns-clause-one_more : goal.returns-clause-one_more
unfolding unrolled node_in left_as_they_are nodes_in memories_in memories_of example.one_more example.one_more_in_lanes
returns-clause-one_more c = refl

pub returns-clause-shared_reads : goal.returns-clause-shared_reads
unfolding unrolled node_in left_as_they_are nodes_in memories_in memories_of example.shared_reads example.shared_reads_in_lanes
returns-clause-shared_reads c = refl

pub returns-clause-fixed_reduced : goal.returns-clause-fixed_reduced
unfolding unrolled node_in left_as_they_are nodes_in memories_in memories_of example.fixed_reduced example.fixed_reduced_in_lanes
returns-clause-fixed_reduced c = refl

pub returns-clause-fixed_folded : goal.returns-clause-fixed_folded
unfolding unrolled node_in left_as_they_are nodes_in memories_in memories_of example.fixed_folded example.fixed_folded_in_lanes
returns-clause-fixed_folded c = refl

pub returns-clause-memory_reduced : goal.returns-clause-memory_reduced
unfolding unrolled node_in left_as_they_are nodes_in memories_in memories_of example.memory_reduced_by_two example.memory_reduced_in_lanes
returns-clause-memory_reduced c = refl

pub returns-clause-nested : goal.returns-clause-nested
unfolding unrolled node_in left_as_they_are nodes_in memories_in memories_of example.nested example.nested_in_lanes
returns-clause-nested c = refl

pub returns-clause-machines : goal.returns-clause-machines
unfolding unrolled node_in left_as_they_are nodes_in memories_in memories_of example.machines example.machines_in_lanes
returns-clause-machines c = refl
