-- The meets of each core are computed.
use Rattle.std.proofs.Common.{refl}
use Rattle.sp_words.specs.WholeNumbers.{modulo, floor_div}
use Rattle.sp_words.specs.Words.{value_of, has_sign, wrap}
use Rattle.sp_deps.specs.Sums.{gcd, gcd_within}
use Rattle.sp_patterns.specs.Forms.{fits}
use Rattle.sp_patterns.specs.Ranges.{fits_int}
use Rattle.sp_core.specs.ExampleLoops.{counting_down, register_between, streamed}
use Rattle.sp_meets.specs.Examples.{beside, two_parts}
use Rattle.sp_meets.proofs.examples.worked_stages.Goals as goal

pub returns-clause-register : goal.returns-clause-register
unfolding gcd gcd_within fits fits_int value_of has_sign wrap modulo floor_div register_between
returns-clause-register c = refl

pub returns-clause-machine : goal.returns-clause-machine
unfolding gcd gcd_within fits fits_int value_of has_sign wrap modulo floor_div counting_down
returns-clause-machine c = refl

pub returns-clause-stream : goal.returns-clause-stream
unfolding gcd gcd_within fits fits_int value_of has_sign wrap modulo floor_div streamed
returns-clause-stream c = refl

pub returns-clause-one_word : goal.returns-clause-one_word
unfolding gcd gcd_within fits fits_int value_of has_sign wrap modulo floor_div beside
returns-clause-one_word c = refl

pub returns-clause-two_words : goal.returns-clause-two_words
unfolding gcd gcd_within fits fits_int value_of has_sign wrap modulo floor_div beside
returns-clause-two_words c = refl

pub returns-clause-one_after_the_other : goal.returns-clause-one_after_the_other
unfolding gcd gcd_within fits fits_int value_of has_sign wrap modulo floor_div two_parts
returns-clause-one_after_the_other c = refl

pub returns-clause-at_once : goal.returns-clause-at_once
unfolding gcd gcd_within fits fits_int value_of has_sign wrap modulo floor_div two_parts
returns-clause-at_once c = refl
