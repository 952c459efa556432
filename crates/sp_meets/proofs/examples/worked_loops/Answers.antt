-- The meets of each core are computed.
use Rattle.std.proofs.Common.{refl}
use Rattle.sp_words.specs.WholeNumbers.{modulo, floor_div}
use Rattle.sp_words.specs.Words.{value_of, has_sign, wrap}
use Rattle.sp_deps.specs.Sums.{gcd, gcd_within}
use Rattle.sp_patterns.specs.Forms.{fits}
use Rattle.sp_patterns.specs.Ranges.{fits_int}
use Rattle.sp_core.specs.ExampleLanes.{squares_in_lanes}
use Rattle.sp_core.specs.ExampleLoops.{queued, shifted}
use Rattle.sp_core.specs.ExampleTransfers.{histogram}
use Rattle.sp_meets.specs.Examples.{chained}
use Rattle.sp_meets.proofs.examples.worked_loops.Goals as goal

pub returns-clause-histogram : goal.returns-clause-histogram
unfolding gcd gcd_within fits fits_int value_of has_sign wrap modulo floor_div histogram
returns-clause-histogram c = refl

pub returns-clause-squares : goal.returns-clause-squares
unfolding gcd gcd_within fits fits_int value_of has_sign wrap modulo floor_div squares_in_lanes
returns-clause-squares c = refl

pub returns-clause-chained : goal.returns-clause-chained
unfolding gcd gcd_within fits fits_int value_of has_sign wrap modulo floor_div chained
returns-clause-chained c = refl

pub returns-clause-shifted : goal.returns-clause-shifted
unfolding gcd gcd_within fits fits_int value_of has_sign wrap modulo floor_div shifted
returns-clause-shifted c = refl

pub returns-clause-queue : goal.returns-clause-queue
unfolding gcd gcd_within fits fits_int value_of has_sign wrap modulo floor_div queued
returns-clause-queue c = refl
