-- Each run is computed.
use Rattle.std.proofs.Common.{refl}
use Rattle.sp_words.specs.WholeNumbers.{modulo, floor_div}
use Rattle.sp_words.specs.Words.{value_of, has_sign, wrap, word_add, word_sub, word_mul, word_lt, word_eq}
use Rattle.sp_core.specs.ExampleLoops.{sum_core, two_statements, running_sum, counting_down}
use Rattle.sp_core.specs.Meaning.{meaning, run_core}
use Rattle.sp_core.specs.Operations.{operations_after}
use Rattle.sp_core.specs.Sequential.{run, run_stages}
use Rattle.sp_core.specs.Shape.{shape_of, group_shapes, stage_shapes, body_shapes}
use Rattle.sp_core.specs.Events.{moments, group_moments, stage_moments, turn_moments}
use Rattle.sp_core.specs.Cost.{cost, group_costs, stage_costs, turns_cost}
use Rattle.sp_core.specs.Step.{pure, ◌>>=◌, stop, out_of_turns, look, change, in_order, repeated}
use Rattle.sp_core.proofs.examples.worked_limits.Goals as goal

pub returns-clause-sum : goal.returns-clause-sum
unfolding meaning run_core run run_stages operations_after pure ◌>>=◌ stop out_of_turns look change in_order repeated moments group_moments stage_moments turn_moments shape_of group_shapes stage_shapes body_shapes cost group_costs stage_costs turns_cost value_of has_sign wrap modulo floor_div word_add word_sub word_mul word_lt word_eq sum_core
returns-clause-sum c = refl

pub returns-clause-sum_limit : goal.returns-clause-sum_limit
unfolding meaning run_core run run_stages operations_after pure ◌>>=◌ stop out_of_turns look change in_order repeated moments group_moments stage_moments turn_moments shape_of group_shapes stage_shapes body_shapes cost group_costs stage_costs turns_cost value_of has_sign wrap modulo floor_div word_add word_sub word_mul word_lt word_eq sum_core
returns-clause-sum_limit c = refl

pub returns-clause-two_statements : goal.returns-clause-two_statements
unfolding meaning run_core run run_stages operations_after pure ◌>>=◌ stop out_of_turns look change in_order repeated moments group_moments stage_moments turn_moments shape_of group_shapes stage_shapes body_shapes cost group_costs stage_costs turns_cost value_of has_sign wrap modulo floor_div word_add word_sub word_mul word_lt word_eq two_statements
returns-clause-two_statements c = refl

pub returns-clause-two_statements_limit : goal.returns-clause-two_statements_limit
unfolding meaning run_core run run_stages operations_after pure ◌>>=◌ stop out_of_turns look change in_order repeated moments group_moments stage_moments turn_moments shape_of group_shapes stage_shapes body_shapes cost group_costs stage_costs turns_cost value_of has_sign wrap modulo floor_div word_add word_sub word_mul word_lt word_eq two_statements
returns-clause-two_statements_limit c = refl

pub returns-clause-running_sum : goal.returns-clause-running_sum
unfolding meaning run_core run run_stages operations_after pure ◌>>=◌ stop out_of_turns look change in_order repeated moments group_moments stage_moments turn_moments shape_of group_shapes stage_shapes body_shapes cost group_costs stage_costs turns_cost value_of has_sign wrap modulo floor_div word_add word_sub word_mul word_lt word_eq running_sum
returns-clause-running_sum c = refl

pub returns-clause-running_sum_limit : goal.returns-clause-running_sum_limit
unfolding meaning run_core run run_stages operations_after pure ◌>>=◌ stop out_of_turns look change in_order repeated moments group_moments stage_moments turn_moments shape_of group_shapes stage_shapes body_shapes cost group_costs stage_costs turns_cost value_of has_sign wrap modulo floor_div word_add word_sub word_mul word_lt word_eq running_sum
returns-clause-running_sum_limit c = refl

pub returns-clause-delayed_limit : goal.returns-clause-delayed_limit
unfolding meaning run_core run run_stages operations_after pure ◌>>=◌ stop out_of_turns look change in_order repeated moments group_moments stage_moments turn_moments shape_of group_shapes stage_shapes body_shapes cost group_costs stage_costs turns_cost value_of has_sign wrap modulo floor_div word_add word_sub word_mul word_lt word_eq running_sum
returns-clause-delayed_limit c = refl

pub returns-clause-counting_down : goal.returns-clause-counting_down
unfolding meaning run_core run run_stages operations_after pure ◌>>=◌ stop out_of_turns look change in_order repeated moments group_moments stage_moments turn_moments shape_of group_shapes stage_shapes body_shapes cost group_costs stage_costs turns_cost value_of has_sign wrap modulo floor_div word_add word_sub word_mul word_lt word_eq counting_down
returns-clause-counting_down c = refl
