-- Each class is computed.
use Rattle.std.proofs.Common.{refl}
use Rattle.sp_deps.specs.Sums.{gcd, gcd_within}
use Rattle.sp_deps.proofs.examples.worked_steps.Goals as goal

pub returns-clause-written_in_lane_0_read_in_lane_1 : goal.returns-clause-written_in_lane_0_read_in_lane_1
unfolding gcd gcd_within
returns-clause-written_in_lane_0_read_in_lane_1 c = refl

pub returns-clause-written_in_lane_3_read_in_lane_0 : goal.returns-clause-written_in_lane_3_read_in_lane_0
unfolding gcd gcd_within
returns-clause-written_in_lane_3_read_in_lane_0 c = refl

pub returns-clause-written_in_lane_1_read_in_lane_0 : goal.returns-clause-written_in_lane_1_read_in_lane_0
unfolding gcd gcd_within
returns-clause-written_in_lane_1_read_in_lane_0 c = refl

pub returns-clause-four_back : goal.returns-clause-four_back
unfolding gcd gcd_within
returns-clause-four_back c = refl

pub returns-clause-two_ahead : goal.returns-clause-two_ahead
unfolding gcd gcd_within
returns-clause-two_ahead c = refl

pub returns-clause-four_behind : goal.returns-clause-four_behind
unfolding gcd gcd_within
returns-clause-four_behind c = refl

pub returns-clause-other_lane : goal.returns-clause-other_lane
unfolding gcd gcd_within
returns-clause-other_lane c = refl

pub returns-clause-one_element : goal.returns-clause-one_element
unfolding gcd gcd_within
returns-clause-one_element c = refl

pub returns-clause-even_and_odd : goal.returns-clause-even_and_odd
unfolding gcd gcd_within
returns-clause-even_and_odd c = refl

pub returns-clause-by_the_interval : goal.returns-clause-by_the_interval
unfolding gcd gcd_within
returns-clause-by_the_interval c = refl

pub returns-clause-without_a_range : goal.returns-clause-without_a_range
unfolding gcd gcd_within
returns-clause-without_a_range c = refl

pub returns-clause-second_index : goal.returns-clause-second_index
unfolding gcd gcd_within
returns-clause-second_index c = refl

pub returns-clause-both_indices : goal.returns-clause-both_indices
unfolding gcd gcd_within
returns-clause-both_indices c = refl

pub returns-clause-one_symbol : goal.returns-clause-one_symbol
unfolding gcd gcd_within
returns-clause-one_symbol c = refl

pub returns-clause-two_symbols : goal.returns-clause-two_symbols
unfolding gcd gcd_within
returns-clause-two_symbols c = refl

pub returns-clause-counter_outside : goal.returns-clause-counter_outside
unfolding gcd gcd_within
returns-clause-counter_outside c = refl
