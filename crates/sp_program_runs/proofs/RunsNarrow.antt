-- Runs of programs whose loads and stores each have one lane.
use Rattle.std.proofs.Common.{◌≡◌, ◌≤◌, ℕ, ◌+◌, List, ◌∙◌}
use Rattle.sp_tree.specs.PlainProgram.{PlainProgram}
use Rattle.sp_words.specs.Ports.{PlainInput}
use Rattle.sp_core.specs.Inputs.{InputFits}
use Rattle.sp_core.specs.Latency.{limit}
use Rattle.sp_core.specs.PlainCore.{PlainCore}
use Rattle.sp_core.specs.Scope.{in_lanes}
use Rattle.sp_core.specs.Shape.{shape_of}
use Rattle.sp_machine.specs.Timeline.{core_timed}
use Rattle.sp_machine.specs.Transfers.{Delays}
use Rattle.sp_within.specs.Rounds.{rounds}
use Rattle.sp_sugar.specs.Core.{core_of}
use Rattle.sp_lanes.specs.Unrolled.{unrolled}
use Rattle.sp_lane_cores.specs.Laws.{StaysCore}
use Rattle.sp_lane_programs.specs.LanesLaws.{ProgramIsByLane}
use Rattle.sp_lane_programs.specs.ProgramsLaws.{ProgramEnds}
use Rattle.sp_outcomes.specs.Laws.{IsProgramFollowed}
use Rattle.sp_turns.specs.Laws.{ProgramRoundsWithinTurns}
use Rattle.sp_plan.specs.PlainPlan.{PlainPlan}
use Rattle.sp_chosen_runs.specs.ChosenLaws.{ChosenPlansRun, HasChosen, RunsWell}
use Rattle.sp_narrow.specs.Laws.{NarrowRunsAlike, NarrowStaysCore, NarrowStaysByLane, NarrowGoesNoOftener, NarrowHasLessLimit}
use Rattle.sp_narrow.specs.Narrow.{narrow}
use Rattle.sp_program_runs.proofs.RunsWhole.{InLanes, at_most, ends_in_lanes, fits_in_lanes}
use Rattle.sp_program_runs.specs.RunsLaws.{laned, narrowed, HasNarrowPlan, NarrowProgramRuns}

-- what holds of each narrow core
pub record NarrowIsWell (core : PlainCore) : Type 0 where
  pub alike : NarrowRunsAlike core
  pub is_core : NarrowStaysCore core
  pub by_lane : NarrowStaysByLane core
  pub no_oftener : NarrowGoesNoOftener core
  pub less_limit : NarrowHasLessLimit core

-- the ports are those of the core
fits_narrow : (core : PlainCore) (input : PlainInput) → InputFits core input → InputFits (narrow core) input
fits_narrow core input h = record { args = h.args; drams = h.drams }

pub narrow_programs_run : (p : PlainProgram) (plan : PlainPlan) (delays : Delays) (delay : ℕ) → StaysCore p → ProgramIsByLane p → IsProgramFollowed p → ProgramEnds p → ProgramRoundsWithinTurns p → NarrowIsWell (laned p) → ChosenPlansRun (narrowed p) plan delays delay → NarrowProgramRuns p plan delays delay
narrow_programs_run p plan delays delay is by followed ends falls narrows run meets has waits n input fits outs drams turns shape e =
    let x : InLanes p n input outs drams turns = ends_in_lanes p followed ends falls n input fits outs drams turns shape e in
    let ran = narrows.alike in_lanes n input ∙ x.ran in
    let chosen : HasChosen (narrowed p) meets plan = record { is_core = narrows.is_core is; is_timed = has.is_timed; by_lane = narrows.by_lane by; meets_are = has.meets_are; is_chosen = has.is_chosen } in
    let well : RunsWell (narrowed p) plan delays delay input x.history x.left = run meets chosen waits input n x.history x.left (fits_narrow (laned p) input (fits_in_lanes (core_of p) input fits)) ran in
    let few : rounds (narrowed p).root (shape_of (narrowed p).root x.history) ≤ turns =
    at_most (rounds (narrowed p).root (shape_of (narrowed p).root x.history)) (rounds (laned p).root (shape_of (laned p).root x.history)) turns (narrows.no_oftener is in_lanes n input x.history x.left x.ran) x.within in
    record {
      history = x.history;
      left = x.left;
      ran = ran;
      words = x.words;
      well = well;
      ends = λ m most. at_most ((core_timed (narrowed p) plan delays x.history).took + 2) (limit m delay (narrowed p)) (limit m delay (laned p)) (well.ends m (at_most (rounds (narrowed p).root (shape_of (narrowed p).root x.history)) turns m few most)) (narrows.less_limit is m delay);
    }
