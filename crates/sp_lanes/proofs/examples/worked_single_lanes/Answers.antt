-- Each is computed.
use Rattle.std.proofs.Common.{refl}
use Rattle.sp_core.specs.ExampleLoops as loops
use Rattle.sp_core.specs.ExampleTransfers as transfers
use Rattle.sp_lanes.specs.Order.{memories_in, memories_of}
use Rattle.sp_lanes.specs.Unrolled.{unrolled, node_in, left_as_they_are, nodes_in}
use Rattle.sp_lanes.proofs.examples.worked_single_lanes.Goals as goal

pub returns-clause-copied : goal.returns-clause-copied
unfolding unrolled node_in left_as_they_are nodes_in memories_in memories_of transfers.copied
returns-clause-copied c = refl

pub returns-clause-line_filter_root : goal.returns-clause-line_filter_root
unfolding unrolled node_in left_as_they_are nodes_in memories_in memories_of transfers.line_filter
returns-clause-line_filter_root c = refl

pub returns-clause-counting_down : goal.returns-clause-counting_down
unfolding unrolled node_in left_as_they_are nodes_in memories_in memories_of loops.counting_down
returns-clause-counting_down c = refl

pub returns-clause-register_between : goal.returns-clause-register_between
unfolding unrolled node_in left_as_they_are nodes_in memories_in memories_of loops.register_between
returns-clause-register_between c = refl
