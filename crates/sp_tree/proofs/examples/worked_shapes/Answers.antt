-- Each run is computed.
use Rattle.std.proofs.Common.{refl}
use Rattle.sp_words.specs.WholeNumbers.{modulo, floor_div}
use Rattle.sp_words.specs.Words.{value_of, has_sign, wrap, word_add, word_sub, word_mul, word_lt}
use Rattle.sp_tree.specs.ExampleLoops.{no_iteration, counting_down}
use Rattle.sp_tree.specs.ExampleStreams.{scattered, widely_copied}
use Rattle.sp_tree.specs.ExampleTransfers.{overlapping_stores, line_filter}
use Rattle.sp_tree.specs.Expressions.{word}
use Rattle.sp_tree.specs.Meaning.{seq, run_program}
use Rattle.sp_tree.specs.Sequential.{run}
use Rattle.sp_tree.specs.Step.{pure, ◌>>=◌, turn, out_of_turns, fault, read, change, in_order, repeated, as_long_as}
use Rattle.sp_tree.proofs.examples.worked_shapes.Goals as goal

pub returns-clause-loop_without_iterations : goal.returns-clause-loop_without_iterations
unfolding seq run_program run word pure ◌>>=◌ turn out_of_turns fault read change in_order repeated as_long_as value_of has_sign wrap modulo floor_div word_add word_sub word_mul word_lt no_iteration
returns-clause-loop_without_iterations c = refl

pub returns-clause-fsm_turns : goal.returns-clause-fsm_turns
unfolding seq run_program run word pure ◌>>=◌ turn out_of_turns fault read change in_order repeated as_long_as value_of has_sign wrap modulo floor_div word_add word_sub word_mul word_lt counting_down
returns-clause-fsm_turns c = refl

pub returns-clause-loops_in_loops : goal.returns-clause-loops_in_loops
unfolding seq run_program run word pure ◌>>=◌ turn out_of_turns fault read change in_order repeated as_long_as value_of has_sign wrap modulo floor_div word_add word_sub word_mul word_lt overlapping_stores
returns-clause-loops_in_loops c = refl

pub returns-clause-branches_and_transfers : goal.returns-clause-branches_and_transfers
unfolding seq run_program run word pure ◌>>=◌ turn out_of_turns fault read change in_order repeated as_long_as value_of has_sign wrap modulo floor_div word_add word_sub word_mul word_lt line_filter
returns-clause-branches_and_transfers c = refl

pub returns-clause-several_lanes : goal.returns-clause-several_lanes
unfolding seq run_program run word pure ◌>>=◌ turn out_of_turns fault read change in_order repeated as_long_as value_of has_sign wrap modulo floor_div word_add word_sub word_mul word_lt widely_copied
returns-clause-several_lanes c = refl

pub returns-clause-gathers : goal.returns-clause-gathers
unfolding seq run_program run word pure ◌>>=◌ turn out_of_turns fault read change in_order repeated as_long_as value_of has_sign wrap modulo floor_div word_add word_sub word_mul word_lt scattered
returns-clause-gathers c = refl

pub returns-clause-lanes_of_a_row : goal.returns-clause-lanes_of_a_row
returns-clause-lanes_of_a_row c = refl

pub returns-clause-lanes_of_two_rows : goal.returns-clause-lanes_of_two_rows
returns-clause-lanes_of_two_rows c = refl

pub returns-clause-lanes_of_no_rows : goal.returns-clause-lanes_of_no_rows
returns-clause-lanes_of_no_rows c = refl
