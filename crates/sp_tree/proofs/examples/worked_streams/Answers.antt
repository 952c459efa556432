-- Each run is computed.
use Rattle.std.proofs.Common.{refl}
use Rattle.sp_words.specs.WholeNumbers.{modulo, floor_div}
use Rattle.sp_words.specs.Words.{value_of, has_sign, wrap, word_add, word_sub, word_mul, word_lt}
use Rattle.sp_tree.specs.ExampleStreams.{streamed, left_over, streamed_twice, scattered, far_gather, unwritten_scatter, widely_copied}
use Rattle.sp_tree.specs.Expressions.{word}
use Rattle.sp_tree.specs.Meaning.{seq, run_program}
use Rattle.sp_tree.specs.Sequential.{run}
use Rattle.sp_tree.specs.Step.{pure, ◌>>=◌, turn, out_of_turns, fault, read, change, in_order, repeated, as_long_as}
use Rattle.sp_tree.proofs.examples.worked_streams.Goals as goal

pub returns-clause-streamed : goal.returns-clause-streamed
unfolding seq run_program run word pure ◌>>=◌ turn out_of_turns fault read change in_order repeated as_long_as value_of has_sign wrap modulo floor_div word_add word_sub word_mul word_lt streamed
returns-clause-streamed c = refl

pub returns-clause-two_words_left_over : goal.returns-clause-two_words_left_over
unfolding seq run_program run word pure ◌>>=◌ turn out_of_turns fault read change in_order repeated as_long_as value_of has_sign wrap modulo floor_div word_add word_sub word_mul word_lt left_over
returns-clause-two_words_left_over c = refl

pub returns-clause-three_words_left_over : goal.returns-clause-three_words_left_over
unfolding seq run_program run word pure ◌>>=◌ turn out_of_turns fault read change in_order repeated as_long_as value_of has_sign wrap modulo floor_div word_add word_sub word_mul word_lt left_over
returns-clause-three_words_left_over c = refl

pub returns-clause-joined_twice : goal.returns-clause-joined_twice
unfolding seq run_program run word pure ◌>>=◌ turn out_of_turns fault read change in_order repeated as_long_as value_of has_sign wrap modulo floor_div word_add word_sub word_mul word_lt streamed_twice
returns-clause-joined_twice c = refl

pub returns-clause-scattered : goal.returns-clause-scattered
unfolding seq run_program run word pure ◌>>=◌ turn out_of_turns fault read change in_order repeated as_long_as value_of has_sign wrap modulo floor_div word_add word_sub word_mul word_lt scattered
returns-clause-scattered c = refl

pub returns-clause-place_past_the_end : goal.returns-clause-place_past_the_end
unfolding seq run_program run word pure ◌>>=◌ turn out_of_turns fault read change in_order repeated as_long_as value_of has_sign wrap modulo floor_div word_add word_sub word_mul word_lt scattered
returns-clause-place_past_the_end c = refl

pub returns-clause-gathered_past_its_end : goal.returns-clause-gathered_past_its_end
unfolding seq run_program run word pure ◌>>=◌ turn out_of_turns fault read change in_order repeated as_long_as value_of has_sign wrap modulo floor_div word_add word_sub word_mul word_lt far_gather
returns-clause-gathered_past_its_end c = refl

pub returns-clause-place_before_element : goal.returns-clause-place_before_element
unfolding seq run_program run word pure ◌>>=◌ turn out_of_turns fault read change in_order repeated as_long_as value_of has_sign wrap modulo floor_div word_add word_sub word_mul word_lt far_gather
returns-clause-place_before_element c = refl

pub returns-clause-unwritten_place : goal.returns-clause-unwritten_place
unfolding seq run_program run word pure ◌>>=◌ turn out_of_turns fault read change in_order repeated as_long_as value_of has_sign wrap modulo floor_div word_add word_sub word_mul word_lt far_gather
returns-clause-unwritten_place c = refl

pub returns-clause-unwritten_word : goal.returns-clause-unwritten_word
unfolding seq run_program run word pure ◌>>=◌ turn out_of_turns fault read change in_order repeated as_long_as value_of has_sign wrap modulo floor_div word_add word_sub word_mul word_lt unwritten_scatter
returns-clause-unwritten_word c = refl

pub returns-clause-nothing_gathered : goal.returns-clause-nothing_gathered
unfolding seq run_program run word pure ◌>>=◌ turn out_of_turns fault read change in_order repeated as_long_as value_of has_sign wrap modulo floor_div word_add word_sub word_mul word_lt far_gather
returns-clause-nothing_gathered c = refl

pub returns-clause-copied : goal.returns-clause-copied
unfolding seq run_program run word pure ◌>>=◌ turn out_of_turns fault read change in_order repeated as_long_as value_of has_sign wrap modulo floor_div word_add word_sub word_mul word_lt widely_copied
returns-clause-copied c = refl
