-- Every netlist has exactly one run.
use Rattle.sp_netlist.specs.Laws.{HasOneRun}
use Rattle.sp_netlist.proofs.SomeRun.{some_run}
use Rattle.sp_netlist.proofs.SameRun.{same_run}

pub one_run : HasOneRun
one_run g h = record { some_run = some_run g h; same_run = same_run g h }
