-- Each run is computed.
use Rattle.std.proofs.Common.{refl}
use Rattle.sp_words.specs.WholeNumbers.{modulo, floor_div}
use Rattle.sp_words.specs.Words.{value_of, has_sign, wrap, word_add, word_sub, word_mul, word_lt}
use Rattle.sp_tree.specs.ExampleTransfers.{dot_product, squares, histogram, transposed, sums_of_two, sums_of_three, gathered, line_filter, copied, overlapping_stores, wide_words, empty_slice, slice_outside, long_slice, mixed_stages}
use Rattle.sp_tree.specs.Expressions.{word}
use Rattle.sp_tree.specs.Meaning.{seq, run_program}
use Rattle.sp_tree.specs.Sequential.{run}
use Rattle.sp_tree.specs.Step.{pure, ◌>>=◌, turn, out_of_turns, fault, read, change, in_order, repeated, as_long_as}
use Rattle.sp_tree.proofs.examples.worked_transfers.Goals as goal

pub returns-clause-dot_product : goal.returns-clause-dot_product
unfolding seq run_program run word pure ◌>>=◌ turn out_of_turns fault read change in_order repeated as_long_as value_of has_sign wrap modulo floor_div word_add word_sub word_mul word_lt dot_product
returns-clause-dot_product c = refl

pub returns-clause-squares : goal.returns-clause-squares
unfolding seq run_program run word pure ◌>>=◌ turn out_of_turns fault read change in_order repeated as_long_as value_of has_sign wrap modulo floor_div word_add word_sub word_mul word_lt squares
returns-clause-squares c = refl

pub returns-clause-histogram : goal.returns-clause-histogram
unfolding seq run_program run word pure ◌>>=◌ turn out_of_turns fault read change in_order repeated as_long_as value_of has_sign wrap modulo floor_div word_add word_sub word_mul word_lt histogram
returns-clause-histogram c = refl

pub returns-clause-transposed : goal.returns-clause-transposed
unfolding seq run_program run word pure ◌>>=◌ turn out_of_turns fault read change in_order repeated as_long_as value_of has_sign wrap modulo floor_div word_add word_sub word_mul word_lt transposed
returns-clause-transposed c = refl

pub returns-clause-sums_of_two : goal.returns-clause-sums_of_two
unfolding seq run_program run word pure ◌>>=◌ turn out_of_turns fault read change in_order repeated as_long_as value_of has_sign wrap modulo floor_div word_add word_sub word_mul word_lt sums_of_two
returns-clause-sums_of_two c = refl

pub returns-clause-sums_of_three : goal.returns-clause-sums_of_three
unfolding seq run_program run word pure ◌>>=◌ turn out_of_turns fault read change in_order repeated as_long_as value_of has_sign wrap modulo floor_div word_add word_sub word_mul word_lt sums_of_three
returns-clause-sums_of_three c = refl

pub returns-clause-gathered : goal.returns-clause-gathered
unfolding seq run_program run word pure ◌>>=◌ turn out_of_turns fault read change in_order repeated as_long_as value_of has_sign wrap modulo floor_div word_add word_sub word_mul word_lt gathered
returns-clause-gathered c = refl

pub returns-clause-line_filter : goal.returns-clause-line_filter
unfolding seq run_program run word pure ◌>>=◌ turn out_of_turns fault read change in_order repeated as_long_as value_of has_sign wrap modulo floor_div word_add word_sub word_mul word_lt line_filter
returns-clause-line_filter c = refl

pub returns-clause-narrow_line_filter : goal.returns-clause-narrow_line_filter
unfolding seq run_program run word pure ◌>>=◌ turn out_of_turns fault read change in_order repeated as_long_as value_of has_sign wrap modulo floor_div word_add word_sub word_mul word_lt line_filter
returns-clause-narrow_line_filter c = refl

pub returns-clause-copied : goal.returns-clause-copied
unfolding seq run_program run word pure ◌>>=◌ turn out_of_turns fault read change in_order repeated as_long_as value_of has_sign wrap modulo floor_div word_add word_sub word_mul word_lt copied
returns-clause-copied c = refl

pub returns-clause-overlapping_stores : goal.returns-clause-overlapping_stores
unfolding seq run_program run word pure ◌>>=◌ turn out_of_turns fault read change in_order repeated as_long_as value_of has_sign wrap modulo floor_div word_add word_sub word_mul word_lt overlapping_stores
returns-clause-overlapping_stores c = refl

pub returns-clause-wide_words : goal.returns-clause-wide_words
unfolding seq run_program run word pure ◌>>=◌ turn out_of_turns fault read change in_order repeated as_long_as value_of has_sign wrap modulo floor_div word_add word_sub word_mul word_lt wide_words
returns-clause-wide_words c = refl

pub returns-clause-empty_slice : goal.returns-clause-empty_slice
unfolding seq run_program run word pure ◌>>=◌ turn out_of_turns fault read change in_order repeated as_long_as value_of has_sign wrap modulo floor_div word_add word_sub word_mul word_lt empty_slice
returns-clause-empty_slice c = refl

pub returns-clause-slice_outside : goal.returns-clause-slice_outside
unfolding seq run_program run word pure ◌>>=◌ turn out_of_turns fault read change in_order repeated as_long_as value_of has_sign wrap modulo floor_div word_add word_sub word_mul word_lt slice_outside
returns-clause-slice_outside c = refl

pub returns-clause-long_slice : goal.returns-clause-long_slice
unfolding seq run_program run word pure ◌>>=◌ turn out_of_turns fault read change in_order repeated as_long_as value_of has_sign wrap modulo floor_div word_add word_sub word_mul word_lt long_slice
returns-clause-long_slice c = refl

pub returns-clause-mixed_stages : goal.returns-clause-mixed_stages
unfolding seq run_program run word pure ◌>>=◌ turn out_of_turns fault read change in_order repeated as_long_as value_of has_sign wrap modulo floor_div word_add word_sub word_mul word_lt mixed_stages
returns-clause-mixed_stages c = refl
