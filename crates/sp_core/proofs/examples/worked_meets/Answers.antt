-- Each run is computed.
use Rattle.std.proofs.Common.{refl}
use Rattle.sp_words.specs.WholeNumbers.{modulo, floor_div}
use Rattle.sp_words.specs.Words.{value_of, has_sign, wrap, word_add, word_sub, word_mul, word_lt, word_eq}
use Rattle.sp_core.specs.ExampleLanes.{squares_in_lanes, stores_in_lanes}
use Rattle.sp_core.specs.ExampleLoops.{shifted}
use Rattle.sp_core.specs.ExampleTransfers.{histogram}
use Rattle.sp_core.specs.Meaning.{meaning, run_core}
use Rattle.sp_core.specs.Operations.{operations_after}
use Rattle.sp_core.specs.Sequential.{run, run_stages}
use Rattle.sp_core.specs.Shape.{shape_of, group_shapes, stage_shapes, body_shapes}
use Rattle.sp_core.specs.Events.{moments, group_moments, stage_moments, turn_moments}
use Rattle.sp_core.specs.Cost.{cost, group_costs, stage_costs, turns_cost}
use Rattle.sp_core.specs.Step.{pure, ◌>>=◌, stop, out_of_turns, look, change, in_order, repeated}
use Rattle.sp_core.proofs.examples.worked_meets.Goals as goal

pub returns-clause-histogram_forms : goal.returns-clause-histogram_forms
unfolding meaning run_core run run_stages operations_after pure ◌>>=◌ stop out_of_turns look change in_order repeated moments group_moments stage_moments turn_moments shape_of group_shapes stage_shapes body_shapes cost group_costs stage_costs turns_cost value_of has_sign wrap modulo floor_div word_add word_sub word_mul word_lt word_eq histogram
returns-clause-histogram_forms c = refl

pub returns-clause-wrong_coefficient : goal.returns-clause-wrong_coefficient
unfolding meaning run_core run run_stages operations_after pure ◌>>=◌ stop out_of_turns look change in_order repeated moments group_moments stage_moments turn_moments shape_of group_shapes stage_shapes body_shapes cost group_costs stage_costs turns_cost value_of has_sign wrap modulo floor_div word_add word_sub word_mul word_lt word_eq histogram
returns-clause-wrong_coefficient c = refl

pub returns-clause-squares_forms : goal.returns-clause-squares_forms
unfolding meaning run_core run run_stages operations_after pure ◌>>=◌ stop out_of_turns look change in_order repeated moments group_moments stage_moments turn_moments shape_of group_shapes stage_shapes body_shapes cost group_costs stage_costs turns_cost value_of has_sign wrap modulo floor_div word_add word_sub word_mul word_lt word_eq squares_in_lanes
returns-clause-squares_forms c = refl

pub returns-clause-wrong_lane : goal.returns-clause-wrong_lane
unfolding meaning run_core run run_stages operations_after pure ◌>>=◌ stop out_of_turns look change in_order repeated moments group_moments stage_moments turn_moments shape_of group_shapes stage_shapes body_shapes cost group_costs stage_costs turns_cost value_of has_sign wrap modulo floor_div word_add word_sub word_mul word_lt word_eq squares_in_lanes
returns-clause-wrong_lane c = refl

pub returns-clause-symbol : goal.returns-clause-symbol
unfolding meaning run_core run run_stages operations_after pure ◌>>=◌ stop out_of_turns look change in_order repeated moments group_moments stage_moments turn_moments shape_of group_shapes stage_shapes body_shapes cost group_costs stage_costs turns_cost value_of has_sign wrap modulo floor_div word_add word_sub word_mul word_lt word_eq shifted
returns-clause-symbol c = refl

pub returns-clause-no_symbol : goal.returns-clause-no_symbol
unfolding meaning run_core run run_stages operations_after pure ◌>>=◌ stop out_of_turns look change in_order repeated moments group_moments stage_moments turn_moments shape_of group_shapes stage_shapes body_shapes cost group_costs stage_costs turns_cost value_of has_sign wrap modulo floor_div word_add word_sub word_mul word_lt word_eq shifted
returns-clause-no_symbol c = refl

pub returns-clause-histogram_meets : goal.returns-clause-histogram_meets
unfolding meaning run_core run run_stages operations_after pure ◌>>=◌ stop out_of_turns look change in_order repeated moments group_moments stage_moments turn_moments shape_of group_shapes stage_shapes body_shapes cost group_costs stage_costs turns_cost value_of has_sign wrap modulo floor_div word_add word_sub word_mul word_lt word_eq histogram
returns-clause-histogram_meets c = refl

pub returns-clause-too_far : goal.returns-clause-too_far
unfolding meaning run_core run run_stages operations_after pure ◌>>=◌ stop out_of_turns look change in_order repeated moments group_moments stage_moments turn_moments shape_of group_shapes stage_shapes body_shapes cost group_costs stage_costs turns_cost value_of has_sign wrap modulo floor_div word_add word_sub word_mul word_lt word_eq histogram
returns-clause-too_far c = refl

pub returns-clause-squares_meets : goal.returns-clause-squares_meets
unfolding meaning run_core run run_stages operations_after pure ◌>>=◌ stop out_of_turns look change in_order repeated moments group_moments stage_moments turn_moments shape_of group_shapes stage_shapes body_shapes cost group_costs stage_costs turns_cost value_of has_sign wrap modulo floor_div word_add word_sub word_mul word_lt word_eq squares_in_lanes
returns-clause-squares_meets c = refl

pub returns-clause-stores_meets : goal.returns-clause-stores_meets
unfolding meaning run_core run run_stages operations_after pure ◌>>=◌ stop out_of_turns look change in_order repeated moments group_moments stage_moments turn_moments shape_of group_shapes stage_shapes body_shapes cost group_costs stage_costs turns_cost value_of has_sign wrap modulo floor_div word_add word_sub word_mul word_lt word_eq stores_in_lanes
returns-clause-stores_meets c = refl

pub returns-clause-stores_too_far : goal.returns-clause-stores_too_far
unfolding meaning run_core run run_stages operations_after pure ◌>>=◌ stop out_of_turns look change in_order repeated moments group_moments stage_moments turn_moments shape_of group_shapes stage_shapes body_shapes cost group_costs stage_costs turns_cost value_of has_sign wrap modulo floor_div word_add word_sub word_mul word_lt word_eq stores_in_lanes
returns-clause-stores_too_far c = refl
