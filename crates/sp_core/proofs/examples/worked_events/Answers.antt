-- Each run is computed.
use Rattle.std.proofs.Common.{refl}
use Rattle.sp_words.specs.WholeNumbers.{modulo, floor_div}
use Rattle.sp_words.specs.Words.{value_of, has_sign, wrap, word_add, word_sub, word_mul, word_lt, word_eq}
use Rattle.sp_core.specs.ExampleLoops.{sum_core}
use Rattle.sp_core.specs.ExampleTransfers.{copied}
use Rattle.sp_core.specs.Meaning.{meaning, run_core}
use Rattle.sp_core.specs.Operations.{operations_after}
use Rattle.sp_core.specs.Sequential.{run, run_stages}
use Rattle.sp_core.specs.Shape.{shape_of, group_shapes, stage_shapes, body_shapes}
use Rattle.sp_core.specs.Events.{moments, group_moments, stage_moments, turn_moments}
use Rattle.sp_core.specs.Cost.{cost, group_costs, stage_costs, turns_cost}
use Rattle.sp_core.specs.Step.{pure, ◌>>=◌, stop, out_of_turns, look, change, in_order, repeated}
use Rattle.sp_core.proofs.examples.worked_events.Goals as goal

pub returns-clause-sum : goal.returns-clause-sum
unfolding meaning run_core run run_stages operations_after pure ◌>>=◌ stop out_of_turns look change in_order repeated moments group_moments stage_moments turn_moments shape_of group_shapes stage_shapes body_shapes cost group_costs stage_costs turns_cost value_of has_sign wrap modulo floor_div word_add word_sub word_mul word_lt word_eq sum_core
returns-clause-sum c = refl

pub returns-clause-copied : goal.returns-clause-copied
unfolding meaning run_core run run_stages operations_after pure ◌>>=◌ stop out_of_turns look change in_order repeated moments group_moments stage_moments turn_moments shape_of group_shapes stage_shapes body_shapes cost group_costs stage_costs turns_cost value_of has_sign wrap modulo floor_div word_add word_sub word_mul word_lt word_eq copied
returns-clause-copied c = refl
