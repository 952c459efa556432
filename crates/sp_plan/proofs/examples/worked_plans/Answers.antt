-- Each verdict is computed.
use Rattle.std.proofs.Common.{refl}
use Rattle.sp_core.specs.ExampleLanes.{dot_product_in_lanes, stores_in_lanes}
use Rattle.sp_core.specs.ExampleLoops.{register_between, streamed, two_loops}
use Rattle.sp_core.specs.ExampleTransfers.{copied, histogram}
use Rattle.sp_plan.specs.ExamplePlans.{looked_up}
use Rattle.sp_plan.proofs.examples.worked_plans.Goals as goal

pub returns-clause-histogram : goal.returns-clause-histogram
unfolding dot_product_in_lanes stores_in_lanes register_between streamed two_loops copied histogram looked_up
returns-clause-histogram c = refl

pub returns-clause-two_loops : goal.returns-clause-two_loops
unfolding dot_product_in_lanes stores_in_lanes register_between streamed two_loops copied histogram looked_up
returns-clause-two_loops c = refl

pub returns-clause-dot_product : goal.returns-clause-dot_product
unfolding dot_product_in_lanes stores_in_lanes register_between streamed two_loops copied histogram looked_up
returns-clause-dot_product c = refl

pub returns-clause-register : goal.returns-clause-register
unfolding dot_product_in_lanes stores_in_lanes register_between streamed two_loops copied histogram looked_up
returns-clause-register c = refl

pub returns-clause-stores : goal.returns-clause-stores
unfolding dot_product_in_lanes stores_in_lanes register_between streamed two_loops copied histogram looked_up
returns-clause-stores c = refl

pub returns-clause-copied : goal.returns-clause-copied
unfolding dot_product_in_lanes stores_in_lanes register_between streamed two_loops copied histogram looked_up
returns-clause-copied c = refl

pub returns-clause-copied_in_one_slot : goal.returns-clause-copied_in_one_slot
unfolding dot_product_in_lanes stores_in_lanes register_between streamed two_loops copied histogram looked_up
returns-clause-copied_in_one_slot c = refl

pub returns-clause-streamed : goal.returns-clause-streamed
unfolding dot_product_in_lanes stores_in_lanes register_between streamed two_loops copied histogram looked_up
returns-clause-streamed c = refl

pub returns-clause-looked_up : goal.returns-clause-looked_up
unfolding dot_product_in_lanes stores_in_lanes register_between streamed two_loops copied histogram looked_up
returns-clause-looked_up c = refl
