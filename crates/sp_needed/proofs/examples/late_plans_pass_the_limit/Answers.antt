-- Each is computed.
use Rattle.std.proofs.Common.{refl}
use Rattle.sp_words.specs.WholeNumbers.{modulo, floor_div}
use Rattle.sp_words.specs.Words.{value_of, has_sign, wrap, word_add, word_sub, word_mul, word_lt, word_eq}
use Rattle.sp_core.specs.Cost.{cost, group_costs, stage_costs, turns_cost}
use Rattle.sp_core.specs.Shape.{shape_of, group_shapes, stage_shapes, body_shapes}
use Rattle.sp_core.specs.Meaning.{meaning, run_core}
use Rattle.sp_core.specs.Operations.{operations_after}
use Rattle.sp_core.specs.Sequential.{run, run_stages}
use Rattle.sp_core.specs.Step.{pure, ◌>>=◌, stop, out_of_turns, look, change, in_order, repeated}
use Rattle.sp_needed.specs.Cores.{passed_on}
use Rattle.sp_needed.proofs.examples.late_plans_pass_the_limit.Goals as goal

pub returns-clause-valid : goal.returns-clause-valid
unfolding meaning run_core run run_stages operations_after pure ◌>>=◌ stop out_of_turns look change in_order repeated value_of has_sign wrap modulo floor_div word_add word_sub word_mul word_lt word_eq cost group_costs stage_costs turns_cost shape_of group_shapes stage_shapes body_shapes passed_on
returns-clause-valid c = refl

pub returns-clause-cost : goal.returns-clause-cost
unfolding meaning run_core run run_stages operations_after pure ◌>>=◌ stop out_of_turns look change in_order repeated value_of has_sign wrap modulo floor_div word_add word_sub word_mul word_lt word_eq cost group_costs stage_costs turns_cost shape_of group_shapes stage_shapes body_shapes passed_on
returns-clause-cost c = refl

pub returns-clause-most : goal.returns-clause-most
unfolding meaning run_core run run_stages operations_after pure ◌>>=◌ stop out_of_turns look change in_order repeated value_of has_sign wrap modulo floor_div word_add word_sub word_mul word_lt word_eq cost group_costs stage_costs turns_cost shape_of group_shapes stage_shapes body_shapes passed_on
returns-clause-most c = refl
