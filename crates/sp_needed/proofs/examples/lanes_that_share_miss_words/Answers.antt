-- Each is computed.
use Rattle.std.proofs.Common.{refl}
use Rattle.sp_words.specs.WholeNumbers.{modulo, floor_div}
use Rattle.sp_words.specs.Words.{value_of, has_sign, wrap, word_add, word_sub, word_mul, word_lt, word_eq}
use Rattle.sp_core.specs.Events.{moments, group_moments, stage_moments, turn_moments}
use Rattle.sp_core.specs.Meaning.{meaning, run_core}
use Rattle.sp_core.specs.Operations.{operations_after}
use Rattle.sp_core.specs.Sequential.{run, run_stages}
use Rattle.sp_core.specs.Step.{pure, ◌>>=◌, stop, out_of_turns, look, change, in_order, repeated}
use Rattle.sp_machine.specs.Timeline.{timed, group_runs, stage_runs, turn_runs}
use Rattle.sp_needed.specs.Cores.{across_lanes}
use Rattle.sp_needed.proofs.examples.lanes_that_share_miss_words.Goals as goal

pub returns-clause-core : goal.returns-clause-core
unfolding meaning run_core run run_stages operations_after pure ◌>>=◌ stop out_of_turns look change in_order repeated moments group_moments stage_moments turn_moments value_of has_sign wrap modulo floor_div word_add word_sub word_mul word_lt word_eq timed group_runs stage_runs turn_runs across_lanes
returns-clause-core c = refl

pub returns-clause-met : goal.returns-clause-met
unfolding meaning run_core run run_stages operations_after pure ◌>>=◌ stop out_of_turns look change in_order repeated moments group_moments stage_moments turn_moments value_of has_sign wrap modulo floor_div word_add word_sub word_mul word_lt word_eq timed group_runs stage_runs turn_runs across_lanes
returns-clause-met c = refl

pub returns-clause-valid : goal.returns-clause-valid
unfolding meaning run_core run run_stages operations_after pure ◌>>=◌ stop out_of_turns look change in_order repeated moments group_moments stage_moments turn_moments value_of has_sign wrap modulo floor_div word_add word_sub word_mul word_lt word_eq timed group_runs stage_runs turn_runs across_lanes
returns-clause-valid c = refl

pub returns-clause-missed : goal.returns-clause-missed
unfolding meaning run_core run run_stages operations_after pure ◌>>=◌ stop out_of_turns look change in_order repeated moments group_moments stage_moments turn_moments value_of has_sign wrap modulo floor_div word_add word_sub word_mul word_lt word_eq timed group_runs stage_runs turn_runs across_lanes
returns-clause-missed c = refl
