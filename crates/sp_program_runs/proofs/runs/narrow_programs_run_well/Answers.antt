use Rattle.sp_program_runs.proofs.RunsNarrow.{narrow_programs_run}
use Rattle.sp_program_runs.specs.RunsLaws.{laned, narrowed}
use Rattle.sp_program_runs.proofs.runs.narrow_programs_run_well.Goals as goal

pub returns : goal.returns
returns c p plan delays delay h =
    narrow_programs_run p plan delays delay (c.programs_stay_cores.ensures p h) (c.programs_are_by_lane.ensures p h) (c.programs_are_followed.ensures p h) (c.programs_end_in_lanes.ensures p h) (c.rounds_are_within_turns.ensures p h)
    (record {
      alike = c.narrow_cores_run_alike.ensures (laned p);
      is_core = c.narrow_cores_stay_cores.ensures (laned p);
      by_lane = c.narrow_cores_stay_by_lane.ensures (laned p);
      no_oftener = c.narrow_cores_go_no_oftener.ensures (laned p);
      less_limit = c.narrow_cores_have_less_limits.ensures (laned p);
    })
    (c.chosen_plans_run.ensures (narrowed p) plan delays delay)
