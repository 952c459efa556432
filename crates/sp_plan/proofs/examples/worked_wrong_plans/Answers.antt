-- Each verdict is computed.
use Rattle.std.proofs.Common.{refl}
use Rattle.sp_core.specs.ExampleLanes.{dot_product_in_lanes, stores_in_lanes}
use Rattle.sp_core.specs.ExampleLoops.{register_between, streamed, two_loops}
use Rattle.sp_core.specs.ExampleTransfers.{copied, histogram}
use Rattle.sp_plan.specs.ExamplePlans.{looked_up}
use Rattle.sp_plan.proofs.examples.worked_wrong_plans.Goals as goal

pub returns-clause-issued_too_often : goal.returns-clause-issued_too_often
unfolding dot_product_in_lanes stores_in_lanes register_between streamed two_loops copied histogram looked_up
returns-clause-issued_too_often c = refl

pub returns-clause-used_too_early : goal.returns-clause-used_too_early
unfolding dot_product_in_lanes stores_in_lanes register_between streamed two_loops copied histogram looked_up
returns-clause-used_too_early c = refl

pub returns-clause-one_duplicate : goal.returns-clause-one_duplicate
unfolding dot_product_in_lanes stores_in_lanes register_between streamed two_loops copied histogram looked_up
returns-clause-one_duplicate c = refl

pub returns-clause-one_time_too_few : goal.returns-clause-one_time_too_few
unfolding dot_product_in_lanes stores_in_lanes register_between streamed two_loops copied histogram looked_up
returns-clause-one_time_too_few c = refl

pub returns-clause-accumulator_too_early : goal.returns-clause-accumulator_too_early
unfolding dot_product_in_lanes stores_in_lanes register_between streamed two_loops copied histogram looked_up
returns-clause-accumulator_too_early c = refl

pub returns-clause-two_copies : goal.returns-clause-two_copies
unfolding dot_product_in_lanes stores_in_lanes register_between streamed two_loops copied histogram looked_up
returns-clause-two_copies c = refl

pub returns-clause-slots_with_a_gap : goal.returns-clause-slots_with_a_gap
unfolding dot_product_in_lanes stores_in_lanes register_between streamed two_loops copied histogram looked_up
returns-clause-slots_with_a_gap c = refl

pub returns-clause-forms_unknown : goal.returns-clause-forms_unknown
unfolding dot_product_in_lanes stores_in_lanes register_between streamed two_loops copied histogram looked_up
returns-clause-forms_unknown c = refl

pub returns-clause-stages_parted : goal.returns-clause-stages_parted
unfolding dot_product_in_lanes stores_in_lanes register_between streamed two_loops copied histogram looked_up
returns-clause-stages_parted c = refl

pub returns-clause-two_chains_of_a_lane : goal.returns-clause-two_chains_of_a_lane
unfolding dot_product_in_lanes stores_in_lanes register_between streamed two_loops copied histogram looked_up
returns-clause-two_chains_of_a_lane c = refl

pub returns-clause-stores_at_once : goal.returns-clause-stores_at_once
unfolding dot_product_in_lanes stores_in_lanes register_between streamed two_loops copied histogram looked_up
returns-clause-stores_at_once c = refl

pub returns-clause-one_copy_of_two : goal.returns-clause-one_copy_of_two
unfolding dot_product_in_lanes stores_in_lanes register_between streamed two_loops copied histogram looked_up
returns-clause-one_copy_of_two c = refl

pub returns-clause-pipelined_in_a_stream : goal.returns-clause-pipelined_in_a_stream
unfolding dot_product_in_lanes stores_in_lanes register_between streamed two_loops copied histogram looked_up
returns-clause-pipelined_in_a_stream c = refl

pub returns-clause-serial_at_one_time : goal.returns-clause-serial_at_one_time
unfolding dot_product_in_lanes stores_in_lanes register_between streamed two_loops copied histogram looked_up
returns-clause-serial_at_one_time c = refl

pub returns-clause-serial_past_an_interval : goal.returns-clause-serial_past_an_interval
unfolding dot_product_in_lanes stores_in_lanes register_between streamed two_loops copied histogram looked_up
returns-clause-serial_past_an_interval c = refl

pub returns-clause-no_group : goal.returns-clause-no_group
unfolding dot_product_in_lanes stores_in_lanes register_between streamed two_loops copied histogram looked_up
returns-clause-no_group c = refl

pub returns-clause-a_register_in_banks : goal.returns-clause-a_register_in_banks
unfolding dot_product_in_lanes stores_in_lanes register_between streamed two_loops copied histogram looked_up
returns-clause-a_register_in_banks c = refl
