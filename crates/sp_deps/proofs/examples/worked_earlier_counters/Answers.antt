-- Each class is computed.
use Rattle.std.proofs.Common.{refl}
use Rattle.sp_deps.specs.Sums.{gcd, gcd_within}
use Rattle.sp_deps.proofs.examples.worked_earlier_counters.Goals as goal

pub returns-clause-another_row : goal.returns-clause-another_row
unfolding gcd gcd_within
returns-clause-another_row c = refl

pub returns-clause-next_row : goal.returns-clause-next_row
unfolding gcd gcd_within
returns-clause-next_row c = refl

pub returns-clause-lane_before : goal.returns-clause-lane_before
unfolding gcd gcd_within
returns-clause-lane_before c = refl

pub returns-clause-same_column : goal.returns-clause-same_column
unfolding gcd gcd_within
returns-clause-same_column c = refl

pub returns-clause-three_steps : goal.returns-clause-three_steps
unfolding gcd gcd_within
returns-clause-three_steps c = refl

pub returns-clause-long_step : goal.returns-clause-long_step
unfolding gcd gcd_within
returns-clause-long_step c = refl

pub returns-clause-steps_without_end : goal.returns-clause-steps_without_end
unfolding gcd gcd_within
returns-clause-steps_without_end c = refl

pub returns-clause-no_step_back : goal.returns-clause-no_step_back
unfolding gcd gcd_within
returns-clause-no_step_back c = refl

pub returns-clause-second_of_three : goal.returns-clause-second_of_three
unfolding gcd gcd_within
returns-clause-second_of_three c = refl

pub returns-clause-unknown : goal.returns-clause-unknown
unfolding gcd gcd_within
returns-clause-unknown c = refl
