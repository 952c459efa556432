use Rattle.sp_program_runs.proofs.RunsWhole.{laned_programs_run}
use Rattle.sp_program_runs.proofs.runs.laned_programs_run_well.Goals as goal

pub returns : goal.returns
returns c p plan delays delay h =
    laned_programs_run p plan delays delay (c.programs_stay_cores.ensures p h) (c.programs_are_by_lane.ensures p h) (c.programs_are_followed.ensures p h) (c.programs_end_in_lanes.ensures p h) (c.rounds_are_within_turns.ensures p h) (c.chosen_plans_run.ensures _ plan delays delay)
