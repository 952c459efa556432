-- Each is computed.
use Rattle.std.proofs.Common.{refl}
use Rattle.sp_words.specs.WholeNumbers.{modulo, floor_div}
use Rattle.sp_words.specs.Words.{value_of, has_sign, wrap, word_add, word_sub, word_mul, word_lt, word_eq}
use Rattle.sp_core.specs.Events.{moments, group_moments, stage_moments, turn_moments}
use Rattle.sp_core.specs.ExampleLanes.{stores_in_lanes}
use Rattle.sp_core.specs.ExampleLoops.{sum_core, two_loops, counting_down}
use Rattle.sp_core.specs.ExampleTransfers.{copied, copied_at_once}
use Rattle.sp_core.specs.Meaning.{meaning, run_core}
use Rattle.sp_core.specs.Operations.{operations_after}
use Rattle.sp_core.specs.Sequential.{run, run_stages}
use Rattle.sp_core.specs.Step.{pure, ◌>>=◌, stop, out_of_turns, look, change, in_order, repeated}
use Rattle.sp_machine.specs.Examples.{chosen, idling}
use Rattle.sp_machine.specs.Timeline.{timed, group_runs, stage_runs, turn_runs}
use Rattle.sp_machine.proofs.examples.worked_lengths.Goals as goal

pub returns-clause-sum : goal.returns-clause-sum
unfolding meaning run_core run run_stages operations_after pure ◌>>=◌ stop out_of_turns look change in_order repeated moments group_moments stage_moments turn_moments value_of has_sign wrap modulo floor_div word_add word_sub word_mul word_lt word_eq timed group_runs stage_runs turn_runs sum_core
returns-clause-sum c = refl

pub returns-clause-one_turn : goal.returns-clause-one_turn
unfolding meaning run_core run run_stages operations_after pure ◌>>=◌ stop out_of_turns look change in_order repeated moments group_moments stage_moments turn_moments value_of has_sign wrap modulo floor_div word_add word_sub word_mul word_lt word_eq timed group_runs stage_runs turn_runs counting_down
returns-clause-one_turn c = refl

pub returns-clause-five_turns : goal.returns-clause-five_turns
unfolding meaning run_core run run_stages operations_after pure ◌>>=◌ stop out_of_turns look change in_order repeated moments group_moments stage_moments turn_moments value_of has_sign wrap modulo floor_div word_add word_sub word_mul word_lt word_eq timed group_runs stage_runs turn_runs counting_down
returns-clause-five_turns c = refl

pub returns-clause-two_loops : goal.returns-clause-two_loops
unfolding meaning run_core run run_stages operations_after pure ◌>>=◌ stop out_of_turns look change in_order repeated moments group_moments stage_moments turn_moments value_of has_sign wrap modulo floor_div word_add word_sub word_mul word_lt word_eq timed group_runs stage_runs turn_runs two_loops
returns-clause-two_loops c = refl

pub returns-clause-copied : goal.returns-clause-copied
unfolding meaning run_core run run_stages operations_after pure ◌>>=◌ stop out_of_turns look change in_order repeated moments group_moments stage_moments turn_moments value_of has_sign wrap modulo floor_div word_add word_sub word_mul word_lt word_eq timed group_runs stage_runs turn_runs copied
returns-clause-copied c = refl

pub returns-clause-copied_with_delays : goal.returns-clause-copied_with_delays
unfolding meaning run_core run run_stages operations_after pure ◌>>=◌ stop out_of_turns look change in_order repeated moments group_moments stage_moments turn_moments value_of has_sign wrap modulo floor_div word_add word_sub word_mul word_lt word_eq timed group_runs stage_runs turn_runs copied
returns-clause-copied_with_delays c = refl

pub returns-clause-copied_in_one_slot : goal.returns-clause-copied_in_one_slot
unfolding meaning run_core run run_stages operations_after pure ◌>>=◌ stop out_of_turns look change in_order repeated moments group_moments stage_moments turn_moments value_of has_sign wrap modulo floor_div word_add word_sub word_mul word_lt word_eq timed group_runs stage_runs turn_runs copied
returns-clause-copied_in_one_slot c = refl

pub returns-clause-bursts : goal.returns-clause-bursts
unfolding meaning run_core run run_stages operations_after pure ◌>>=◌ stop out_of_turns look change in_order repeated moments group_moments stage_moments turn_moments value_of has_sign wrap modulo floor_div word_add word_sub word_mul word_lt word_eq timed group_runs stage_runs turn_runs copied_at_once
returns-clause-bursts c = refl

pub returns-clause-masked_lane : goal.returns-clause-masked_lane
unfolding meaning run_core run run_stages operations_after pure ◌>>=◌ stop out_of_turns look change in_order repeated moments group_moments stage_moments turn_moments value_of has_sign wrap modulo floor_div word_add word_sub word_mul word_lt word_eq timed group_runs stage_runs turn_runs stores_in_lanes
returns-clause-masked_lane c = refl

pub returns-clause-block_taken : goal.returns-clause-block_taken
unfolding meaning run_core run run_stages operations_after pure ◌>>=◌ stop out_of_turns look change in_order repeated moments group_moments stage_moments turn_moments value_of has_sign wrap modulo floor_div word_add word_sub word_mul word_lt word_eq timed group_runs stage_runs turn_runs chosen
returns-clause-block_taken c = refl

pub returns-clause-block_left_out : goal.returns-clause-block_left_out
unfolding meaning run_core run run_stages operations_after pure ◌>>=◌ stop out_of_turns look change in_order repeated moments group_moments stage_moments turn_moments value_of has_sign wrap modulo floor_div word_add word_sub word_mul word_lt word_eq timed group_runs stage_runs turn_runs chosen
returns-clause-block_left_out c = refl

pub returns-clause-groups_at_once : goal.returns-clause-groups_at_once
unfolding meaning run_core run run_stages operations_after pure ◌>>=◌ stop out_of_turns look change in_order repeated moments group_moments stage_moments turn_moments value_of has_sign wrap modulo floor_div word_add word_sub word_mul word_lt word_eq timed group_runs stage_runs turn_runs idling
returns-clause-groups_at_once c = refl
