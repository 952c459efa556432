-- Runs of programs by the plans that are chosen for them.
use Rattle.std.proofs.Common.{◌≡◌, ◌≤◌, ℕ, Bool, true, false, List, sym, ◌∙◌, ap, arith}
use Rattle.std.proofs.lemmas.Bool.{true≢false}
use Rattle.sp_tree.specs.Meaning as program
use Rattle.sp_tree.specs.Meaning.{seq}
use Rattle.sp_tree.specs.PlainProgram.{PlainProgram}
use Rattle.sp_tree.specs.Shape.{Shape}
use Rattle.sp_words.specs.Ports.{PlainInput}
use Rattle.sp_core.specs.History.{History}
use Rattle.sp_core.specs.Inputs.{InputFits}
use Rattle.sp_core.specs.Meaning.{run_core, Outcome, ended, outcome, meaning}
use Rattle.sp_core.specs.PlainCore.{PlainCore}
use Rattle.sp_core.specs.Scope.{in_lanes}
use Rattle.sp_core.specs.Shape.{shape_of}
use Rattle.sp_core.specs.Step.{Went, went, stopped, more}
use Rattle.sp_core.specs.Store.{Store}
use Rattle.sp_within.specs.Rounds.{rounds}
use Rattle.sp_sugar.specs.Core.{core_of}
use Rattle.sp_lanes.specs.Unrolled.{unrolled}
use Rattle.sp_lane_cores.specs.Laws.{StaysCore}
use Rattle.sp_lane_programs.specs.LanesLaws.{ProgramIsByLane}
use Rattle.sp_lane_programs.specs.ProgramsLaws.{ProgramEnds}
use Rattle.sp_outcomes.specs.Laws.{IsProgramFollowed}
use Rattle.sp_turns.specs.Laws.{ProgramRoundsWithinTurns}
use Rattle.sp_plan.specs.PlainPlan.{PlainPlan}
use Rattle.sp_machine.specs.Transfers.{Delays}
use Rattle.sp_chosen_runs.specs.ChosenLaws.{ChosenPlansRun, HasChosen, RunsWell}
use Rattle.sp_lane_programs.specs.TimedLaws.{ProgramIsTimed}
use Rattle.sp_program_runs.specs.RunsLaws.{laned, HasPlan, HasLanedPlan, ProgramRuns, LanedProgramRuns}

-- a run that ends
ended_run : (core : PlainCore) (outs : List ℕ) (drams : List (List ℕ)) (g : History) (r : Went History) → outcome core r ≡ ended outs drams g → (t : Store) × (r ≡ went g t)
ended_run core outs drams g (went h s) e = (s, ap (λ x. went x s) (ap history_of e))
  where
    history_of : Outcome → History
    history_of (ended a b c) = c
    history_of _ = h
ended_run core outs drams g stopped e = absurd (true≢false (sym (ap did_end e)))
  where
    did_end : Outcome → Bool
    did_end (ended a b c) = true
    did_end _ = false
ended_run core outs drams g more e = absurd (true≢false (sym (ap did_end e)))
  where
    did_end : Outcome → Bool
    did_end (ended a b c) = true
    did_end _ = false

-- the ports are those of the core
pub fits_in_lanes : (core : PlainCore) (input : PlainInput) → InputFits core input → InputFits (unrolled core) input
unfolding unrolled
fits_in_lanes core input h = record { args = h.args; drams = h.drams }

-- a run in lanes that ends with these words, and goes around so often at most
pub record InLanes (p : PlainProgram) (n : ℕ) (input : PlainInput) (outs : List ℕ) (drams : List (List ℕ)) (most : ℕ) : Type 0 where
  pub history : History
  pub left : Store
  pub ran : run_core in_lanes n (laned p) input ≡ went history left
  pub words : outcome (laned p) (went history left) ≡ ended outs drams history
  pub within : rounds (laned p).root (shape_of (laned p).root history) ≤ most

in_lanes_run : (p : PlainProgram) (n : ℕ) (input : PlainInput) (outs : List ℕ) (drams : List (List ℕ)) (most : ℕ) (g : History) → meaning in_lanes n (laned p) input ≡ ended outs drams g → rounds (laned p).root (shape_of (laned p).root g) ≤ most → InLanes p n input outs drams most
unfolding meaning
in_lanes_run p n input outs drams most g e le =
    let r = ended_run (laned p) outs drams g (run_core in_lanes n (laned p) input) e in
    record { history = g; left = r.0; ran = r.1; words = sym (ap (outcome (laned p)) r.1) ∙ e; within = le }

pub at_most : (a b c : ℕ) → a ≤ b → b ≤ c → a ≤ c
at_most a b c f g = omega (arith, f, g)

-- where the program ends
pub ends_in_lanes : (p : PlainProgram) → IsProgramFollowed p → ProgramEnds p → ProgramRoundsWithinTurns p → (n : ℕ) (input : PlainInput) → InputFits (core_of p) input
    → (outs : List ℕ) (drams : List (List ℕ)) (turns : ℕ) (shape : Shape) → seq n p input ≡ program.ended outs drams turns shape → InLanes p n input outs drams turns
ends_in_lanes p followed ends falls n input fits outs drams turns shape e =
    let c = followed n input outs drams turns shape e in
    let x = ends n input fits outs drams c.0 c.1 in
    in_lanes_run p n input outs drams turns x.0 x.1
    (at_most (rounds (laned p).root (shape_of (laned p).root x.0)) (rounds (core_of p).root (shape_of (core_of p).root c.0)) turns x.2 (falls n input outs drams turns shape e outs drams c.0 c.1))

pub laned_programs_run : (p : PlainProgram) (plan : PlainPlan) (delays : Delays) (delay : ℕ) → StaysCore p → ProgramIsByLane p → IsProgramFollowed p → ProgramEnds p → ProgramRoundsWithinTurns p → ChosenPlansRun (laned p) plan delays delay → LanedProgramRuns p plan delays delay
laned_programs_run p plan delays delay is by followed ends falls run meets has waits n input fits outs drams turns shape e =
    let x : InLanes p n input outs drams turns = ends_in_lanes p followed ends falls n input fits outs drams turns shape e in
    let chosen : HasChosen (laned p) meets plan = record { is_core = is; is_timed = has.is_timed; by_lane = by; meets_are = has.meets_are; is_chosen = has.is_chosen } in
    let well : RunsWell (laned p) plan delays delay input x.history x.left = run meets chosen waits input n x.history x.left (fits_in_lanes (core_of p) input fits) x.ran in
    record {
      history = x.history;
      left = x.left;
      ran = x.ran;
      words = x.words;
      well = well;
      ends = λ m most. well.ends m (at_most (rounds (laned p).root (shape_of (laned p).root x.history)) turns m x.within most);
    }

pub programs_run : (p : PlainProgram) (plan : PlainPlan) (delays : Delays) (delay : ℕ) → ProgramIsTimed p → LanedProgramRuns p plan delays delay → ProgramRuns p plan delays delay
programs_run p plan delays delay timed run meets has = run meets (record { is_timed = timed has.is_timed; meets_are = has.meets_are; is_chosen = has.is_chosen })
