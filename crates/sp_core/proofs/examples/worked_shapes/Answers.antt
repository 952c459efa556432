-- Each run is computed.
use Rattle.std.proofs.Common.{refl}
use Rattle.sp_words.specs.WholeNumbers.{modulo, floor_div}
use Rattle.sp_words.specs.Words.{value_of, has_sign, wrap, word_add, word_sub, word_mul, word_lt, word_eq}
use Rattle.sp_core.specs.ExampleLanes.{squares_in_lanes, stores_in_lanes}
use Rattle.sp_core.specs.Meaning.{meaning, run_core}
use Rattle.sp_core.specs.Operations.{operations_after}
use Rattle.sp_core.specs.Sequential.{run, run_stages}
use Rattle.sp_core.specs.Shape.{shape_of, group_shapes, stage_shapes, body_shapes}
use Rattle.sp_core.specs.Events.{moments, group_moments, stage_moments, turn_moments}
use Rattle.sp_core.specs.Cost.{cost, group_costs, stage_costs, turns_cost}
use Rattle.sp_core.specs.Step.{pure, ◌>>=◌, stop, out_of_turns, look, change, in_order, repeated}
use Rattle.sp_core.proofs.examples.worked_shapes.Goals as goal

pub returns-clause-counts_of_lanes : goal.returns-clause-counts_of_lanes
unfolding meaning run_core run run_stages operations_after pure ◌>>=◌ stop out_of_turns look change in_order repeated moments group_moments stage_moments turn_moments shape_of group_shapes stage_shapes body_shapes cost group_costs stage_costs turns_cost value_of has_sign wrap modulo floor_div word_add word_sub word_mul word_lt word_eq squares_in_lanes
returns-clause-counts_of_lanes c = refl

pub returns-clause-masked_stages : goal.returns-clause-masked_stages
unfolding meaning run_core run run_stages operations_after pure ◌>>=◌ stop out_of_turns look change in_order repeated moments group_moments stage_moments turn_moments shape_of group_shapes stage_shapes body_shapes cost group_costs stage_costs turns_cost value_of has_sign wrap modulo floor_div word_add word_sub word_mul word_lt word_eq stores_in_lanes
returns-clause-masked_stages c = refl

pub returns-clause-wide_row : goal.returns-clause-wide_row
unfolding meaning run_core run run_stages operations_after pure ◌>>=◌ stop out_of_turns look change in_order repeated moments group_moments stage_moments turn_moments shape_of group_shapes stage_shapes body_shapes cost group_costs stage_costs turns_cost value_of has_sign wrap modulo floor_div word_add word_sub word_mul word_lt word_eq
returns-clause-wide_row c = refl

pub returns-clause-wide_rows : goal.returns-clause-wide_rows
unfolding meaning run_core run run_stages operations_after pure ◌>>=◌ stop out_of_turns look change in_order repeated moments group_moments stage_moments turn_moments shape_of group_shapes stage_shapes body_shapes cost group_costs stage_costs turns_cost value_of has_sign wrap modulo floor_div word_add word_sub word_mul word_lt word_eq
returns-clause-wide_rows c = refl

pub returns-clause-wide_nothing : goal.returns-clause-wide_nothing
unfolding meaning run_core run run_stages operations_after pure ◌>>=◌ stop out_of_turns look change in_order repeated moments group_moments stage_moments turn_moments shape_of group_shapes stage_shapes body_shapes cost group_costs stage_costs turns_cost value_of has_sign wrap modulo floor_div word_add word_sub word_mul word_lt word_eq
returns-clause-wide_nothing c = refl
