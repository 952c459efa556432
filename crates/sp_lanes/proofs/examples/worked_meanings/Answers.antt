-- Each is computed.
use Rattle.std.proofs.Common.{refl}
use Rattle.sp_words.specs.WholeNumbers.{modulo, floor_div}
use Rattle.sp_words.specs.Words.{value_of, has_sign, wrap, word_add, word_sub, word_mul, word_lt, word_eq}
use Rattle.sp_core.specs.Meaning.{meaning, run_core}
use Rattle.sp_core.specs.Operations.{operations_after}
use Rattle.sp_core.specs.Sequential.{run, run_stages}
use Rattle.sp_core.specs.Step.{pure, ◌>>=◌, stop, out_of_turns, look, change, in_order, repeated}
use Rattle.sp_lanes.specs.Examples as example
use Rattle.sp_lanes.specs.Order.{memories_in, memories_of}
use Rattle.sp_lanes.specs.Unrolled.{unrolled, node_in, left_as_they_are, nodes_in}
use Rattle.sp_lanes.proofs.examples.worked_meanings.Goals as goal

pub returns-clause-one_behind : goal.returns-clause-one_behind
unfolding meaning run_core run run_stages operations_after pure ◌>>=◌ stop out_of_turns look change in_order repeated value_of has_sign wrap modulo floor_div word_add word_sub word_mul word_lt word_eq unrolled node_in left_as_they_are nodes_in memories_in memories_of example.one_more
returns-clause-one_behind c = refl

pub returns-clause-four_behind : goal.returns-clause-four_behind
unfolding meaning run_core run run_stages operations_after pure ◌>>=◌ stop out_of_turns look change in_order repeated value_of has_sign wrap modulo floor_div word_add word_sub word_mul word_lt word_eq unrolled node_in left_as_they_are nodes_in memories_in memories_of example.one_more
returns-clause-four_behind c = refl

pub returns-clause-shared_reads : goal.returns-clause-shared_reads
unfolding meaning run_core run run_stages operations_after pure ◌>>=◌ stop out_of_turns look change in_order repeated value_of has_sign wrap modulo floor_div word_add word_sub word_mul word_lt word_eq unrolled node_in left_as_they_are nodes_in memories_in memories_of example.shared_reads
returns-clause-shared_reads c = refl

pub returns-clause-fixed_reduced : goal.returns-clause-fixed_reduced
unfolding meaning run_core run run_stages operations_after pure ◌>>=◌ stop out_of_turns look change in_order repeated value_of has_sign wrap modulo floor_div word_add word_sub word_mul word_lt word_eq unrolled node_in left_as_they_are nodes_in memories_in memories_of example.fixed_reduced
returns-clause-fixed_reduced c = refl

pub returns-clause-fixed_folded : goal.returns-clause-fixed_folded
unfolding meaning run_core run run_stages operations_after pure ◌>>=◌ stop out_of_turns look change in_order repeated value_of has_sign wrap modulo floor_div word_add word_sub word_mul word_lt word_eq unrolled node_in left_as_they_are nodes_in memories_in memories_of example.fixed_folded
returns-clause-fixed_folded c = refl

pub returns-clause-memory_reduced : goal.returns-clause-memory_reduced
unfolding meaning run_core run run_stages operations_after pure ◌>>=◌ stop out_of_turns look change in_order repeated value_of has_sign wrap modulo floor_div word_add word_sub word_mul word_lt word_eq unrolled node_in left_as_they_are nodes_in memories_in memories_of example.memory_reduced_by_two
returns-clause-memory_reduced c = refl

pub returns-clause-nested : goal.returns-clause-nested
unfolding meaning run_core run run_stages operations_after pure ◌>>=◌ stop out_of_turns look change in_order repeated value_of has_sign wrap modulo floor_div word_add word_sub word_mul word_lt word_eq unrolled node_in left_as_they_are nodes_in memories_in memories_of example.nested
returns-clause-nested c = refl

pub returns-clause-machines : goal.returns-clause-machines
unfolding meaning run_core run run_stages operations_after pure ◌>>=◌ stop out_of_turns look change in_order repeated value_of has_sign wrap modulo floor_div word_add word_sub word_mul word_lt word_eq unrolled node_in left_as_they_are nodes_in memories_in memories_of example.machines
returns-clause-machines c = refl
