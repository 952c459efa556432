-- Each first refusal is computed.
use Rattle.std.proofs.Common.{refl}
use Rattle.sp_words.specs.WholeNumbers.{modulo, floor_div}
use Rattle.sp_words.specs.Words.{wrap}
use Rattle.sp_types.specs.First.{note, notes}
use Rattle.sp_types.specs.Literal.{literal_word}
use Rattle.sp_types.specs.Types.{type_of}
use Rattle.sp_types.specs.Visible.{lookup, declare, is_busy}
use Rattle.sp_types.specs.Worked.{given_twice, written, two_indices, first_counter_in_lanes, reduced_by, taken_in_a_bound, wide_load, gathered_in_two, part_of}
use Rattle.sp_types.proofs.examples.worked_refusals.Goals as goal

pub returns-clause-given_twice : goal.returns-clause-given_twice
unfolding note notes literal_word type_of lookup declare is_busy wrap modulo floor_div given_twice
returns-clause-given_twice c = refl

pub returns-clause-unknown : goal.returns-clause-unknown
unfolding note notes literal_word type_of lookup declare is_busy wrap modulo floor_div written
returns-clause-unknown c = refl

pub returns-clause-other_type : goal.returns-clause-other_type
unfolding note notes literal_word type_of lookup declare is_busy wrap modulo floor_div written
returns-clause-other_type c = refl

pub returns-clause-output_that_is_read : goal.returns-clause-output_that_is_read
unfolding note notes literal_word type_of lookup declare is_busy wrap modulo floor_div written
returns-clause-output_that_is_read c = refl

pub returns-clause-two_indices : goal.returns-clause-two_indices
unfolding note notes literal_word type_of lookup declare is_busy wrap modulo floor_div two_indices
returns-clause-two_indices c = refl

pub returns-clause-first_counter_in_lanes : goal.returns-clause-first_counter_in_lanes
unfolding note notes literal_word type_of lookup declare is_busy wrap modulo floor_div first_counter_in_lanes
returns-clause-first_counter_in_lanes c = refl

pub returns-clause-choice : goal.returns-clause-choice
unfolding note notes literal_word type_of lookup declare is_busy wrap modulo floor_div written
returns-clause-choice c = refl

pub returns-clause-greatest_word : goal.returns-clause-greatest_word
unfolding note notes literal_word type_of lookup declare is_busy wrap modulo floor_div written
returns-clause-greatest_word c = refl

pub returns-clause-past_the_greatest_word : goal.returns-clause-past_the_greatest_word
unfolding note notes literal_word type_of lookup declare is_busy wrap modulo floor_div written
returns-clause-past_the_greatest_word c = refl

pub returns-clause-least_word : goal.returns-clause-least_word
unfolding note notes literal_word type_of lookup declare is_busy wrap modulo floor_div written
returns-clause-least_word c = refl

pub returns-clause-fraction_of_zero : goal.returns-clause-fraction_of_zero
unfolding note notes literal_word type_of lookup declare is_busy wrap modulo floor_div written
returns-clause-fraction_of_zero c = refl

pub returns-clause-fraction_that_is_lost : goal.returns-clause-fraction_that_is_lost
unfolding note notes literal_word type_of lookup declare is_busy wrap modulo floor_div written
returns-clause-fraction_that_is_lost c = refl

pub returns-clause-fraction_that_is_cast : goal.returns-clause-fraction_that_is_cast
unfolding note notes literal_word type_of lookup declare is_busy wrap modulo floor_div written
returns-clause-fraction_that_is_cast c = refl

pub returns-clause-no_type : goal.returns-clause-no_type
unfolding note notes literal_word type_of lookup declare is_busy wrap modulo floor_div written
returns-clause-no_type c = refl

pub returns-clause-bit_in_a_sum : goal.returns-clause-bit_in_a_sum
unfolding note notes literal_word type_of lookup declare is_busy wrap modulo floor_div written
returns-clause-bit_in_a_sum c = refl

pub returns-clause-literal_in_a_test : goal.returns-clause-literal_in_a_test
unfolding note notes literal_word type_of lookup declare is_busy wrap modulo floor_div written
returns-clause-literal_in_a_test c = refl

pub returns-clause-compared_bits : goal.returns-clause-compared_bits
unfolding note notes literal_word type_of lookup declare is_busy wrap modulo floor_div written
returns-clause-compared_bits c = refl

pub returns-clause-equal_bits : goal.returns-clause-equal_bits
unfolding note notes literal_word type_of lookup declare is_busy wrap modulo floor_div written
returns-clause-equal_bits c = refl

pub returns-clause-negated_number : goal.returns-clause-negated_number
unfolding note notes literal_word type_of lookup declare is_busy wrap modulo floor_div written
returns-clause-negated_number c = refl

pub returns-clause-counter_summed : goal.returns-clause-counter_summed
unfolding note notes literal_word type_of lookup declare is_busy wrap modulo floor_div reduced_by
returns-clause-counter_summed c = refl

pub returns-clause-accumulator_in_its_body : goal.returns-clause-accumulator_in_its_body
unfolding note notes literal_word type_of lookup declare is_busy wrap modulo floor_div reduced_by
returns-clause-accumulator_in_its_body c = refl

pub returns-clause-accumulator_of_bits : goal.returns-clause-accumulator_of_bits
unfolding note notes literal_word type_of lookup declare is_busy wrap modulo floor_div reduced_by
returns-clause-accumulator_of_bits c = refl

pub returns-clause-accumulator_of_another_kind : goal.returns-clause-accumulator_of_another_kind
unfolding note notes literal_word type_of lookup declare is_busy wrap modulo floor_div reduced_by
returns-clause-accumulator_of_another_kind c = refl

pub returns-clause-taken_in_a_bound : goal.returns-clause-taken_in_a_bound
unfolding note notes literal_word type_of lookup declare is_busy wrap modulo floor_div taken_in_a_bound
returns-clause-taken_in_a_bound c = refl

pub returns-clause-wide_load : goal.returns-clause-wide_load
unfolding note notes literal_word type_of lookup declare is_busy wrap modulo floor_div wide_load
returns-clause-wide_load c = refl

pub returns-clause-wide_row : goal.returns-clause-wide_row
unfolding note notes literal_word type_of lookup declare is_busy wrap modulo floor_div wide_load
returns-clause-wide_row c = refl

pub returns-clause-range_of_two : goal.returns-clause-range_of_two
unfolding note notes literal_word type_of lookup declare is_busy wrap modulo floor_div wide_load
returns-clause-range_of_two c = refl

pub returns-clause-gathered_in_two : goal.returns-clause-gathered_in_two
unfolding note notes literal_word type_of lookup declare is_busy wrap modulo floor_div gathered_in_two
returns-clause-gathered_in_two c = refl

pub returns-clause-part_of_the_body : goal.returns-clause-part_of_the_body
unfolding note notes literal_word type_of lookup declare is_busy wrap modulo floor_div part_of
returns-clause-part_of_the_body c = refl

pub returns-clause-part_from_outside : goal.returns-clause-part_from_outside
unfolding note notes literal_word type_of lookup declare is_busy wrap modulo floor_div part_of
returns-clause-part_from_outside c = refl

pub returns-clause-part_of_other_dimensions : goal.returns-clause-part_of_other_dimensions
unfolding note notes literal_word type_of lookup declare is_busy wrap modulo floor_div part_of
returns-clause-part_of_other_dimensions c = refl
