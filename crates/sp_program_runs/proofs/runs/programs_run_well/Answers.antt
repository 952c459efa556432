use Rattle.sp_program_runs.proofs.RunsWhole.{programs_run}
use Rattle.sp_program_runs.proofs.runs.programs_run_well.Goals as goal

pub returns : goal.returns
returns c p plan delays delay h = programs_run p plan delays delay (c.programs_are_timed.ensures p h) (c.laned_programs_run_well.ensures p plan delays delay h)
