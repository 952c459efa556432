-- The meets of each core are computed.
use Rattle.std.proofs.Common.{refl}
use Rattle.sp_words.specs.WholeNumbers.{modulo, floor_div}
use Rattle.sp_words.specs.Words.{value_of, has_sign, wrap}
use Rattle.sp_deps.specs.Sums.{gcd, gcd_within}
use Rattle.sp_patterns.specs.Forms.{fits}
use Rattle.sp_patterns.specs.Ranges.{fits_int}
use Rattle.sp_core.specs.ExampleLanes.{stores_in_lanes}
use Rattle.sp_core.specs.ExampleTransfers.{copied}
use Rattle.sp_meets.specs.Examples.{moved_rows}
use Rattle.sp_meets.proofs.examples.worked_transfers.Goals as goal

pub returns-clause-tiles : goal.returns-clause-tiles
unfolding gcd gcd_within fits fits_int value_of has_sign wrap modulo floor_div copied
returns-clause-tiles c = refl

pub returns-clause-lanes : goal.returns-clause-lanes
unfolding gcd gcd_within fits fits_int value_of has_sign wrap modulo floor_div stores_in_lanes
returns-clause-lanes c = refl

pub returns-clause-rows : goal.returns-clause-rows
unfolding gcd gcd_within fits fits_int value_of has_sign wrap modulo floor_div moved_rows
returns-clause-rows c = refl
