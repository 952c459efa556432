-- Each is computed.
use Rattle.std.proofs.Common.{refl}
use Rattle.sp_words.specs.WholeNumbers.{modulo, floor_div}
use Rattle.sp_words.specs.Words.{value_of, has_sign, wrap, word_add, word_sub, word_mul, word_lt, word_eq}
use Rattle.sp_core.specs.Events.{moments, group_moments, stage_moments, turn_moments}
use Rattle.sp_core.specs.ExampleLoops.{register_between}
use Rattle.sp_core.specs.ExampleTransfers.{copied}
use Rattle.sp_core.specs.Meaning.{meaning, run_core}
use Rattle.sp_core.specs.Operations.{operations_after}
use Rattle.sp_core.specs.Sequential.{run, run_stages}
use Rattle.sp_core.specs.Step.{pure, ◌>>=◌, stop, out_of_turns, look, change, in_order, repeated}
use Rattle.sp_machine.specs.Timeline.{timed, group_runs, stage_runs, turn_runs}
use Rattle.sp_needed.specs.Cores.{passed_on, added_up, distant, read_twice, paired}
use Rattle.sp_needed.proofs.examples.rules_keep_ports_apart.Goals as goal

pub returns-clause-span : goal.returns-clause-span
unfolding meaning run_core run run_stages operations_after pure ◌>>=◌ stop out_of_turns look change in_order repeated moments group_moments stage_moments turn_moments value_of has_sign wrap modulo floor_div word_add word_sub word_mul word_lt word_eq timed group_runs stage_runs turn_runs register_between copied passed_on added_up distant read_twice paired
returns-clause-span c = refl

pub returns-clause-span_broken : goal.returns-clause-span_broken
unfolding meaning run_core run run_stages operations_after pure ◌>>=◌ stop out_of_turns look change in_order repeated moments group_moments stage_moments turn_moments value_of has_sign wrap modulo floor_div word_add word_sub word_mul word_lt word_eq timed group_runs stage_runs turn_runs register_between copied passed_on added_up distant read_twice paired
returns-clause-span_broken c = refl

pub returns-clause-duplicates : goal.returns-clause-duplicates
unfolding meaning run_core run run_stages operations_after pure ◌>>=◌ stop out_of_turns look change in_order repeated moments group_moments stage_moments turn_moments value_of has_sign wrap modulo floor_div word_add word_sub word_mul word_lt word_eq timed group_runs stage_runs turn_runs register_between copied passed_on added_up distant read_twice paired
returns-clause-duplicates c = refl

pub returns-clause-duplicates_broken : goal.returns-clause-duplicates_broken
unfolding meaning run_core run run_stages operations_after pure ◌>>=◌ stop out_of_turns look change in_order repeated moments group_moments stage_moments turn_moments value_of has_sign wrap modulo floor_div word_add word_sub word_mul word_lt word_eq timed group_runs stage_runs turn_runs register_between copied passed_on added_up distant read_twice paired
returns-clause-duplicates_broken c = refl

pub returns-clause-scheme : goal.returns-clause-scheme
unfolding meaning run_core run run_stages operations_after pure ◌>>=◌ stop out_of_turns look change in_order repeated moments group_moments stage_moments turn_moments value_of has_sign wrap modulo floor_div word_add word_sub word_mul word_lt word_eq timed group_runs stage_runs turn_runs register_between copied passed_on added_up distant read_twice paired
returns-clause-scheme c = refl

pub returns-clause-scheme_broken : goal.returns-clause-scheme_broken
unfolding meaning run_core run run_stages operations_after pure ◌>>=◌ stop out_of_turns look change in_order repeated moments group_moments stage_moments turn_moments value_of has_sign wrap modulo floor_div word_add word_sub word_mul word_lt word_eq timed group_runs stage_runs turn_runs register_between copied passed_on added_up distant read_twice paired
returns-clause-scheme_broken c = refl
