-- Each run is computed.
use Rattle.std.proofs.Common.{refl}
use Rattle.sp_words.specs.WholeNumbers.{modulo, floor_div}
use Rattle.sp_words.specs.Words.{value_of, has_sign, wrap, word_add, word_sub, word_mul, word_lt}
use Rattle.sp_tree.specs.ExampleLoops.{sum_program, one_iteration, no_iteration, folded, unwritten_fold, counting_down, register_between, early_read, full_queue, queued, memory_reduced, recurrence, far_recurrence, running_sum, two_loops}
use Rattle.sp_tree.specs.Expressions.{word}
use Rattle.sp_tree.specs.Meaning.{seq, run_program}
use Rattle.sp_tree.specs.Sequential.{run}
use Rattle.sp_tree.specs.Step.{pure, ◌>>=◌, turn, out_of_turns, fault, read, change, in_order, repeated, as_long_as}
use Rattle.sp_tree.proofs.examples.worked_loops.Goals as goal

pub returns-clause-sum : goal.returns-clause-sum
unfolding seq run_program run word pure ◌>>=◌ turn out_of_turns fault read change in_order repeated as_long_as value_of has_sign wrap modulo floor_div word_add word_sub word_mul word_lt sum_program
returns-clause-sum c = refl

pub returns-clause-wrapped_sum : goal.returns-clause-wrapped_sum
unfolding seq run_program run word pure ◌>>=◌ turn out_of_turns fault read change in_order repeated as_long_as value_of has_sign wrap modulo floor_div word_add word_sub word_mul word_lt sum_program
returns-clause-wrapped_sum c = refl

pub returns-clause-enough_turns : goal.returns-clause-enough_turns
unfolding seq run_program run word pure ◌>>=◌ turn out_of_turns fault read change in_order repeated as_long_as value_of has_sign wrap modulo floor_div word_add word_sub word_mul word_lt sum_program
returns-clause-enough_turns c = refl

pub returns-clause-too_few_turns : goal.returns-clause-too_few_turns
unfolding seq run_program run word pure ◌>>=◌ turn out_of_turns fault read change in_order repeated as_long_as value_of has_sign wrap modulo floor_div word_add word_sub word_mul word_lt sum_program
returns-clause-too_few_turns c = refl

pub returns-clause-one_iteration : goal.returns-clause-one_iteration
unfolding seq run_program run word pure ◌>>=◌ turn out_of_turns fault read change in_order repeated as_long_as value_of has_sign wrap modulo floor_div word_add word_sub word_mul word_lt one_iteration
returns-clause-one_iteration c = refl

pub returns-clause-no_iteration : goal.returns-clause-no_iteration
unfolding seq run_program run word pure ◌>>=◌ turn out_of_turns fault read change in_order repeated as_long_as value_of has_sign wrap modulo floor_div word_add word_sub word_mul word_lt no_iteration
returns-clause-no_iteration c = refl

pub returns-clause-folded : goal.returns-clause-folded
unfolding seq run_program run word pure ◌>>=◌ turn out_of_turns fault read change in_order repeated as_long_as value_of has_sign wrap modulo floor_div word_add word_sub word_mul word_lt folded
returns-clause-folded c = refl

pub returns-clause-unwritten_fold : goal.returns-clause-unwritten_fold
unfolding seq run_program run word pure ◌>>=◌ turn out_of_turns fault read change in_order repeated as_long_as value_of has_sign wrap modulo floor_div word_add word_sub word_mul word_lt unwritten_fold
returns-clause-unwritten_fold c = refl

pub returns-clause-no_turn_of_an_fsm : goal.returns-clause-no_turn_of_an_fsm
unfolding seq run_program run word pure ◌>>=◌ turn out_of_turns fault read change in_order repeated as_long_as value_of has_sign wrap modulo floor_div word_add word_sub word_mul word_lt counting_down
returns-clause-no_turn_of_an_fsm c = refl

pub returns-clause-five_turns_of_an_fsm : goal.returns-clause-five_turns_of_an_fsm
unfolding seq run_program run word pure ◌>>=◌ turn out_of_turns fault read change in_order repeated as_long_as value_of has_sign wrap modulo floor_div word_add word_sub word_mul word_lt counting_down
returns-clause-five_turns_of_an_fsm c = refl

pub returns-clause-register_between : goal.returns-clause-register_between
unfolding seq run_program run word pure ◌>>=◌ turn out_of_turns fault read change in_order repeated as_long_as value_of has_sign wrap modulo floor_div word_add word_sub word_mul word_lt register_between
returns-clause-register_between c = refl

pub returns-clause-unwritten_element : goal.returns-clause-unwritten_element
unfolding seq run_program run word pure ◌>>=◌ turn out_of_turns fault read change in_order repeated as_long_as value_of has_sign wrap modulo floor_div word_add word_sub word_mul word_lt early_read
returns-clause-unwritten_element c = refl

pub returns-clause-index_past_the_end : goal.returns-clause-index_past_the_end
unfolding seq run_program run word pure ◌>>=◌ turn out_of_turns fault read change in_order repeated as_long_as value_of has_sign wrap modulo floor_div word_add word_sub word_mul word_lt early_read
returns-clause-index_past_the_end c = refl

pub returns-clause-negative_index : goal.returns-clause-negative_index
unfolding seq run_program run word pure ◌>>=◌ turn out_of_turns fault read change in_order repeated as_long_as value_of has_sign wrap modulo floor_div word_add word_sub word_mul word_lt early_read
returns-clause-negative_index c = refl

pub returns-clause-full_queue : goal.returns-clause-full_queue
unfolding seq run_program run word pure ◌>>=◌ turn out_of_turns fault read change in_order repeated as_long_as value_of has_sign wrap modulo floor_div word_add word_sub word_mul word_lt full_queue
returns-clause-full_queue c = refl

pub returns-clause-four_of_four : goal.returns-clause-four_of_four
unfolding seq run_program run word pure ◌>>=◌ turn out_of_turns fault read change in_order repeated as_long_as value_of has_sign wrap modulo floor_div word_add word_sub word_mul word_lt queued
returns-clause-four_of_four c = refl

pub returns-clause-five_of_four : goal.returns-clause-five_of_four
unfolding seq run_program run word pure ◌>>=◌ turn out_of_turns fault read change in_order repeated as_long_as value_of has_sign wrap modulo floor_div word_add word_sub word_mul word_lt queued
returns-clause-five_of_four c = refl

pub returns-clause-memory_reduced : goal.returns-clause-memory_reduced
unfolding seq run_program run word pure ◌>>=◌ turn out_of_turns fault read change in_order repeated as_long_as value_of has_sign wrap modulo floor_div word_add word_sub word_mul word_lt memory_reduced
returns-clause-memory_reduced c = refl

pub returns-clause-recurrence : goal.returns-clause-recurrence
unfolding seq run_program run word pure ◌>>=◌ turn out_of_turns fault read change in_order repeated as_long_as value_of has_sign wrap modulo floor_div word_add word_sub word_mul word_lt recurrence
returns-clause-recurrence c = refl

pub returns-clause-far_recurrence : goal.returns-clause-far_recurrence
unfolding seq run_program run word pure ◌>>=◌ turn out_of_turns fault read change in_order repeated as_long_as value_of has_sign wrap modulo floor_div word_add word_sub word_mul word_lt far_recurrence
returns-clause-far_recurrence c = refl

pub returns-clause-running_sum : goal.returns-clause-running_sum
unfolding seq run_program run word pure ◌>>=◌ turn out_of_turns fault read change in_order repeated as_long_as value_of has_sign wrap modulo floor_div word_add word_sub word_mul word_lt running_sum
returns-clause-running_sum c = refl

pub returns-clause-two_loops : goal.returns-clause-two_loops
unfolding seq run_program run word pure ◌>>=◌ turn out_of_turns fault read change in_order repeated as_long_as value_of has_sign wrap modulo floor_div word_add word_sub word_mul word_lt two_loops
returns-clause-two_loops c = refl
