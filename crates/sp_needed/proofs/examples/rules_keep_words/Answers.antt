-- Each is computed.
use Rattle.std.proofs.Common.{refl}
use Rattle.sp_words.specs.WholeNumbers.{modulo, floor_div}
use Rattle.sp_words.specs.Words.{value_of, has_sign, wrap, word_add, word_sub, word_mul, word_lt, word_eq}
use Rattle.sp_core.specs.Events.{moments, group_moments, stage_moments, turn_moments}
use Rattle.sp_core.specs.ExampleLoops.{register_between}
use Rattle.sp_core.specs.ExampleTransfers.{copied}
use Rattle.sp_core.specs.Meaning.{meaning, run_core}
use Rattle.sp_core.specs.Operations.{operations_after}
use Rattle.sp_core.specs.Sequential.{run, run_stages}
use Rattle.sp_core.specs.Step.{pure, ◌>>=◌, stop, out_of_turns, look, change, in_order, repeated}
use Rattle.sp_machine.specs.Timeline.{timed, group_runs, stage_runs, turn_runs}
use Rattle.sp_needed.specs.Cores.{passed_on, added_up, distant, read_twice, paired}
use Rattle.sp_needed.proofs.examples.rules_keep_words.Goals as goal

pub returns-clause-order : goal.returns-clause-order
unfolding meaning run_core run run_stages operations_after pure ◌>>=◌ stop out_of_turns look change in_order repeated moments group_moments stage_moments turn_moments value_of has_sign wrap modulo floor_div word_add word_sub word_mul word_lt word_eq timed group_runs stage_runs turn_runs register_between copied passed_on added_up distant read_twice paired
returns-clause-order c = refl

pub returns-clause-order_broken : goal.returns-clause-order_broken
unfolding meaning run_core run run_stages operations_after pure ◌>>=◌ stop out_of_turns look change in_order repeated moments group_moments stage_moments turn_moments value_of has_sign wrap modulo floor_div word_add word_sub word_mul word_lt word_eq timed group_runs stage_runs turn_runs register_between copied passed_on added_up distant read_twice paired
returns-clause-order_broken c = refl

pub returns-clause-interval : goal.returns-clause-interval
unfolding meaning run_core run run_stages operations_after pure ◌>>=◌ stop out_of_turns look change in_order repeated moments group_moments stage_moments turn_moments value_of has_sign wrap modulo floor_div word_add word_sub word_mul word_lt word_eq timed group_runs stage_runs turn_runs register_between copied passed_on added_up distant read_twice paired
returns-clause-interval c = refl

pub returns-clause-interval_broken : goal.returns-clause-interval_broken
unfolding meaning run_core run run_stages operations_after pure ◌>>=◌ stop out_of_turns look change in_order repeated moments group_moments stage_moments turn_moments value_of has_sign wrap modulo floor_div word_add word_sub word_mul word_lt word_eq timed group_runs stage_runs turn_runs register_between copied passed_on added_up distant read_twice paired
returns-clause-interval_broken c = refl

pub returns-clause-held_stages : goal.returns-clause-held_stages
unfolding meaning run_core run run_stages operations_after pure ◌>>=◌ stop out_of_turns look change in_order repeated moments group_moments stage_moments turn_moments value_of has_sign wrap modulo floor_div word_add word_sub word_mul word_lt word_eq timed group_runs stage_runs turn_runs register_between copied passed_on added_up distant read_twice paired
returns-clause-held_stages c = refl

pub returns-clause-held_stages_broken : goal.returns-clause-held_stages_broken
unfolding meaning run_core run run_stages operations_after pure ◌>>=◌ stop out_of_turns look change in_order repeated moments group_moments stage_moments turn_moments value_of has_sign wrap modulo floor_div word_add word_sub word_mul word_lt word_eq timed group_runs stage_runs turn_runs register_between copied passed_on added_up distant read_twice paired
returns-clause-held_stages_broken c = refl

pub returns-clause-chain : goal.returns-clause-chain
unfolding meaning run_core run run_stages operations_after pure ◌>>=◌ stop out_of_turns look change in_order repeated moments group_moments stage_moments turn_moments value_of has_sign wrap modulo floor_div word_add word_sub word_mul word_lt word_eq timed group_runs stage_runs turn_runs register_between copied passed_on added_up distant read_twice paired
returns-clause-chain c = refl

pub returns-clause-chain_broken : goal.returns-clause-chain_broken
unfolding meaning run_core run run_stages operations_after pure ◌>>=◌ stop out_of_turns look change in_order repeated moments group_moments stage_moments turn_moments value_of has_sign wrap modulo floor_div word_add word_sub word_mul word_lt word_eq timed group_runs stage_runs turn_runs register_between copied passed_on added_up distant read_twice paired
returns-clause-chain_broken c = refl

pub returns-clause-copies : goal.returns-clause-copies
unfolding meaning run_core run run_stages operations_after pure ◌>>=◌ stop out_of_turns look change in_order repeated moments group_moments stage_moments turn_moments value_of has_sign wrap modulo floor_div word_add word_sub word_mul word_lt word_eq timed group_runs stage_runs turn_runs register_between copied passed_on added_up distant read_twice paired
returns-clause-copies c = refl

pub returns-clause-copies_broken : goal.returns-clause-copies_broken
unfolding meaning run_core run run_stages operations_after pure ◌>>=◌ stop out_of_turns look change in_order repeated moments group_moments stage_moments turn_moments value_of has_sign wrap modulo floor_div word_add word_sub word_mul word_lt word_eq timed group_runs stage_runs turn_runs register_between copied passed_on added_up distant read_twice paired
returns-clause-copies_broken c = refl
