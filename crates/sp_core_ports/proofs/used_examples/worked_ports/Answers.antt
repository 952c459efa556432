-- Each is computed.
use Rattle.std.proofs.Common.{refl}
use Rattle.sp_words.specs.WholeNumbers.{modulo, floor_div}
use Rattle.sp_words.specs.Words.{value_of, has_sign, wrap, word_add, word_sub, word_mul, word_lt, word_eq}
use Rattle.sp_core.specs.Events.{moments, group_moments, stage_moments, turn_moments}
use Rattle.sp_core.specs.ExampleTransfers.{copied}
use Rattle.sp_core.specs.Meaning.{meaning, run_core}
use Rattle.sp_core.specs.Operations.{operations_after}
use Rattle.sp_core.specs.Sequential.{run, run_stages}
use Rattle.sp_core.specs.Step.{pure, ◌>>=◌, stop, out_of_turns, look, change, in_order, repeated}
use Rattle.sp_machine.specs.Timeline.{timed, group_runs, stage_runs, turn_runs}
use Rattle.sp_core_ports.specs.UsedExamples.{two_readers}
use Rattle.sp_core_ports.proofs.used_examples.worked_ports.Goals as goal

pub returns-clause-two_copies : goal.returns-clause-two_copies
unfolding meaning run_core run run_stages operations_after pure ◌>>=◌ stop out_of_turns look change in_order repeated moments group_moments stage_moments turn_moments value_of has_sign wrap modulo floor_div word_add word_sub word_mul word_lt word_eq timed group_runs stage_runs turn_runs copied two_readers
returns-clause-two_copies c = refl

pub returns-clause-two_duplicates : goal.returns-clause-two_duplicates
unfolding meaning run_core run run_stages operations_after pure ◌>>=◌ stop out_of_turns look change in_order repeated moments group_moments stage_moments turn_moments value_of has_sign wrap modulo floor_div word_add word_sub word_mul word_lt word_eq timed group_runs stage_runs turn_runs copied two_readers
returns-clause-two_duplicates c = refl

pub returns-clause-one_duplicate : goal.returns-clause-one_duplicate
unfolding meaning run_core run run_stages operations_after pure ◌>>=◌ stop out_of_turns look change in_order repeated moments group_moments stage_moments turn_moments value_of has_sign wrap modulo floor_div word_add word_sub word_mul word_lt word_eq timed group_runs stage_runs turn_runs copied two_readers
returns-clause-one_duplicate c = refl
