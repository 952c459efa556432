-- What a run of statements has so far, without where it lies in memory.
use Rattle.sp_core.specs.Plain.{plain_ops}
use Rattle.sp_sugar.specs.Runs as plain
use Rattle.sp_operations.specs.Sources.{sources_of}
use Rattle.sp_operations.specs.declared.runs.Run.{Run}

abbrev pub run_of : Run → plain.Run
run_of run = record { ops = plain_ops run.ops.items; values = record { here = sources_of run.here.items; elsewhere = sources_of run.elsewhere.items } }
