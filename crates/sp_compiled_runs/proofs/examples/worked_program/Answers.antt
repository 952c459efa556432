use Rattle.sp_compiled_runs.proofs.examples.worked_program.Goals as goal

pub returns : goal.returns
returns c = record { is_timed = c.worked_programs.ensures.mixed }
