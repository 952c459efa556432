use Rattle.sp_around_tables.proofs.Standing.{stand_inside}
use Rattle.sp_around_tables.proofs.laws.counters_stand_inside.Goals as goal

pub returns : goal.returns
returns c = stand_inside
