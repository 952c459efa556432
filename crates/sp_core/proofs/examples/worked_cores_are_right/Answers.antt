-- Each run is computed.
use Rattle.std.proofs.Common.{refl}
use Rattle.sp_words.specs.WholeNumbers.{modulo, floor_div}
use Rattle.sp_words.specs.Words.{value_of, has_sign, wrap, word_add, word_sub, word_mul, word_lt, word_eq}
use Rattle.sp_core.specs.ExampleBroken.{later_argument, use_outside, owned_twice, counter_of_another_loop, lanes_out_of_order, memory_without_owner}
use Rattle.sp_core.specs.ExampleLanes.{squares_in_lanes, dot_product_in_lanes, stores_in_lanes}
use Rattle.sp_core.specs.ExampleLoops.{sum_core, counting_down, register_between, fresh_registers, queued, memory_reduced, streamed}
use Rattle.sp_core.specs.ExampleTransfers.{dot_product, wide_dot_product, line_filter, gathered}
use Rattle.sp_core.specs.Meaning.{meaning, run_core}
use Rattle.sp_core.specs.Operations.{operations_after}
use Rattle.sp_core.specs.Sequential.{run, run_stages}
use Rattle.sp_core.specs.Shape.{shape_of, group_shapes, stage_shapes, body_shapes}
use Rattle.sp_core.specs.Events.{moments, group_moments, stage_moments, turn_moments}
use Rattle.sp_core.specs.Cost.{cost, group_costs, stage_costs, turns_cost}
use Rattle.sp_core.specs.Step.{pure, ◌>>=◌, stop, out_of_turns, look, change, in_order, repeated}
use Rattle.sp_core.proofs.examples.worked_cores_are_right.Goals as goal

pub returns-clause-sum : goal.returns-clause-sum
unfolding meaning run_core run run_stages operations_after pure ◌>>=◌ stop out_of_turns look change in_order repeated moments group_moments stage_moments turn_moments shape_of group_shapes stage_shapes body_shapes cost group_costs stage_costs turns_cost value_of has_sign wrap modulo floor_div word_add word_sub word_mul word_lt word_eq sum_core
returns-clause-sum c = refl

pub returns-clause-counting_down : goal.returns-clause-counting_down
unfolding meaning run_core run run_stages operations_after pure ◌>>=◌ stop out_of_turns look change in_order repeated moments group_moments stage_moments turn_moments shape_of group_shapes stage_shapes body_shapes cost group_costs stage_costs turns_cost value_of has_sign wrap modulo floor_div word_add word_sub word_mul word_lt word_eq counting_down
returns-clause-counting_down c = refl

pub returns-clause-register_between : goal.returns-clause-register_between
unfolding meaning run_core run run_stages operations_after pure ◌>>=◌ stop out_of_turns look change in_order repeated moments group_moments stage_moments turn_moments shape_of group_shapes stage_shapes body_shapes cost group_costs stage_costs turns_cost value_of has_sign wrap modulo floor_div word_add word_sub word_mul word_lt word_eq register_between
returns-clause-register_between c = refl

pub returns-clause-fresh_registers : goal.returns-clause-fresh_registers
unfolding meaning run_core run run_stages operations_after pure ◌>>=◌ stop out_of_turns look change in_order repeated moments group_moments stage_moments turn_moments shape_of group_shapes stage_shapes body_shapes cost group_costs stage_costs turns_cost value_of has_sign wrap modulo floor_div word_add word_sub word_mul word_lt word_eq fresh_registers
returns-clause-fresh_registers c = refl

pub returns-clause-queued : goal.returns-clause-queued
unfolding meaning run_core run run_stages operations_after pure ◌>>=◌ stop out_of_turns look change in_order repeated moments group_moments stage_moments turn_moments shape_of group_shapes stage_shapes body_shapes cost group_costs stage_costs turns_cost value_of has_sign wrap modulo floor_div word_add word_sub word_mul word_lt word_eq queued
returns-clause-queued c = refl

pub returns-clause-memory_reduced : goal.returns-clause-memory_reduced
unfolding meaning run_core run run_stages operations_after pure ◌>>=◌ stop out_of_turns look change in_order repeated moments group_moments stage_moments turn_moments shape_of group_shapes stage_shapes body_shapes cost group_costs stage_costs turns_cost value_of has_sign wrap modulo floor_div word_add word_sub word_mul word_lt word_eq memory_reduced
returns-clause-memory_reduced c = refl

pub returns-clause-streamed : goal.returns-clause-streamed
unfolding meaning run_core run run_stages operations_after pure ◌>>=◌ stop out_of_turns look change in_order repeated moments group_moments stage_moments turn_moments shape_of group_shapes stage_shapes body_shapes cost group_costs stage_costs turns_cost value_of has_sign wrap modulo floor_div word_add word_sub word_mul word_lt word_eq streamed
returns-clause-streamed c = refl

pub returns-clause-dot_product : goal.returns-clause-dot_product
unfolding meaning run_core run run_stages operations_after pure ◌>>=◌ stop out_of_turns look change in_order repeated moments group_moments stage_moments turn_moments shape_of group_shapes stage_shapes body_shapes cost group_costs stage_costs turns_cost value_of has_sign wrap modulo floor_div word_add word_sub word_mul word_lt word_eq dot_product
returns-clause-dot_product c = refl

pub returns-clause-wide_dot_product : goal.returns-clause-wide_dot_product
unfolding meaning run_core run run_stages operations_after pure ◌>>=◌ stop out_of_turns look change in_order repeated moments group_moments stage_moments turn_moments shape_of group_shapes stage_shapes body_shapes cost group_costs stage_costs turns_cost value_of has_sign wrap modulo floor_div word_add word_sub word_mul word_lt word_eq wide_dot_product
returns-clause-wide_dot_product c = refl

pub returns-clause-line_filter : goal.returns-clause-line_filter
unfolding meaning run_core run run_stages operations_after pure ◌>>=◌ stop out_of_turns look change in_order repeated moments group_moments stage_moments turn_moments shape_of group_shapes stage_shapes body_shapes cost group_costs stage_costs turns_cost value_of has_sign wrap modulo floor_div word_add word_sub word_mul word_lt word_eq line_filter
returns-clause-line_filter c = refl

pub returns-clause-gathered : goal.returns-clause-gathered
unfolding meaning run_core run run_stages operations_after pure ◌>>=◌ stop out_of_turns look change in_order repeated moments group_moments stage_moments turn_moments shape_of group_shapes stage_shapes body_shapes cost group_costs stage_costs turns_cost value_of has_sign wrap modulo floor_div word_add word_sub word_mul word_lt word_eq gathered
returns-clause-gathered c = refl

pub returns-clause-squares_in_lanes : goal.returns-clause-squares_in_lanes
unfolding meaning run_core run run_stages operations_after pure ◌>>=◌ stop out_of_turns look change in_order repeated moments group_moments stage_moments turn_moments shape_of group_shapes stage_shapes body_shapes cost group_costs stage_costs turns_cost value_of has_sign wrap modulo floor_div word_add word_sub word_mul word_lt word_eq squares_in_lanes
returns-clause-squares_in_lanes c = refl

pub returns-clause-dot_product_in_lanes : goal.returns-clause-dot_product_in_lanes
unfolding meaning run_core run run_stages operations_after pure ◌>>=◌ stop out_of_turns look change in_order repeated moments group_moments stage_moments turn_moments shape_of group_shapes stage_shapes body_shapes cost group_costs stage_costs turns_cost value_of has_sign wrap modulo floor_div word_add word_sub word_mul word_lt word_eq dot_product_in_lanes
returns-clause-dot_product_in_lanes c = refl

pub returns-clause-stores_in_lanes : goal.returns-clause-stores_in_lanes
unfolding meaning run_core run run_stages operations_after pure ◌>>=◌ stop out_of_turns look change in_order repeated moments group_moments stage_moments turn_moments shape_of group_shapes stage_shapes body_shapes cost group_costs stage_costs turns_cost value_of has_sign wrap modulo floor_div word_add word_sub word_mul word_lt word_eq stores_in_lanes
returns-clause-stores_in_lanes c = refl

pub returns-clause-later_argument : goal.returns-clause-later_argument
unfolding meaning run_core run run_stages operations_after pure ◌>>=◌ stop out_of_turns look change in_order repeated moments group_moments stage_moments turn_moments shape_of group_shapes stage_shapes body_shapes cost group_costs stage_costs turns_cost value_of has_sign wrap modulo floor_div word_add word_sub word_mul word_lt word_eq later_argument
returns-clause-later_argument c = refl

pub returns-clause-use_outside : goal.returns-clause-use_outside
unfolding meaning run_core run run_stages operations_after pure ◌>>=◌ stop out_of_turns look change in_order repeated moments group_moments stage_moments turn_moments shape_of group_shapes stage_shapes body_shapes cost group_costs stage_costs turns_cost value_of has_sign wrap modulo floor_div word_add word_sub word_mul word_lt word_eq use_outside
returns-clause-use_outside c = refl

pub returns-clause-owned_twice : goal.returns-clause-owned_twice
unfolding meaning run_core run run_stages operations_after pure ◌>>=◌ stop out_of_turns look change in_order repeated moments group_moments stage_moments turn_moments shape_of group_shapes stage_shapes body_shapes cost group_costs stage_costs turns_cost value_of has_sign wrap modulo floor_div word_add word_sub word_mul word_lt word_eq owned_twice
returns-clause-owned_twice c = refl

pub returns-clause-counter_of_another_loop : goal.returns-clause-counter_of_another_loop
unfolding meaning run_core run run_stages operations_after pure ◌>>=◌ stop out_of_turns look change in_order repeated moments group_moments stage_moments turn_moments shape_of group_shapes stage_shapes body_shapes cost group_costs stage_costs turns_cost value_of has_sign wrap modulo floor_div word_add word_sub word_mul word_lt word_eq counter_of_another_loop
returns-clause-counter_of_another_loop c = refl

pub returns-clause-lanes_out_of_order : goal.returns-clause-lanes_out_of_order
unfolding meaning run_core run run_stages operations_after pure ◌>>=◌ stop out_of_turns look change in_order repeated moments group_moments stage_moments turn_moments shape_of group_shapes stage_shapes body_shapes cost group_costs stage_costs turns_cost value_of has_sign wrap modulo floor_div word_add word_sub word_mul word_lt word_eq lanes_out_of_order
returns-clause-lanes_out_of_order c = refl

pub returns-clause-memory_without_owner : goal.returns-clause-memory_without_owner
unfolding meaning run_core run run_stages operations_after pure ◌>>=◌ stop out_of_turns look change in_order repeated moments group_moments stage_moments turn_moments shape_of group_shapes stage_shapes body_shapes cost group_costs stage_costs turns_cost value_of has_sign wrap modulo floor_div word_add word_sub word_mul word_lt word_eq memory_without_owner
returns-clause-memory_without_owner c = refl
