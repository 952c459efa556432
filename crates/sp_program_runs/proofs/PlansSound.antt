-- Runs of programs by their plans.
use Rattle.std.proofs.Common.{◌≡◌, ◌≤◌, ℕ, Bool, true, false, List, sym, ◌∙◌, ap, arith}
use Rattle.std.proofs.lemmas.Bool.{true≢false}
use Rattle.sp_words.specs.Ports.{PlainInput}
use Rattle.sp_tree.specs.PlainProgram.{PlainProgram}
use Rattle.sp_core.specs.History.{History}
use Rattle.sp_core.specs.Inputs.{InputFits}
use Rattle.sp_core.specs.Meaning.{first_store, run_core, Outcome, ended, outcome, meaning}
use Rattle.sp_core.specs.PlainCore.{PlainCore}
use Rattle.sp_core.specs.Scope.{in_lanes, no_scope}
use Rattle.sp_core.specs.Step.{Went, went, stopped, more}
use Rattle.sp_core.specs.Store.{Store}
use Rattle.sp_sugar.specs.Core.{core_of}
use Rattle.sp_lanes.specs.Unrolled.{unrolled}
use Rattle.sp_lane_cores.specs.Laws.{StaysCore}
use Rattle.sp_lane_programs.specs.LanesLaws.{ProgramIsByLane}
use Rattle.sp_brisk.specs.RunsLaws.{BriskRunsEndWithin}
use Rattle.sp_lane_programs.specs.ProgramsLaws.{ProgramEnds}
use Rattle.sp_machine.specs.Transfers.{Delays}
use Rattle.sp_chosen_runs.specs.PlansLaws.{OwnPlansAreSound}
use Rattle.sp_patterns.specs.Patterns.{patterns_of}
use Rattle.sp_plan.specs.PlainPlan.{PlainPlan}
use Rattle.sp_program_runs.specs.PlansLaws.{laned, ProgramHasPlan, ProgramPlanIsSound, ProgramRunsInTime, ProgramEndsWithin}

pub has_plan : (p : PlainProgram) → StaysCore p → ProgramIsByLane p → ProgramHasPlan p
has_plan p is by meets plan valid timed = record {
  is_core = is;
  is_timed = timed;
  by_lane = by;
  valid = valid;
}

pub sound_runs : (p : PlainProgram) (plan : PlainPlan) (delays : Delays) → ProgramHasPlan p → OwnPlansAreSound (laned p) plan delays → ProgramPlanIsSound p plan delays
sound_runs p plan delays has sound made input turns h t fits ran = sound made.meets (has made.meets plan made.valid made.timed) made.are_meets input turns h t fits ran

-- a run that ends
ended_run : (core : PlainCore) (outs : List ℕ) (drams : List (List ℕ)) (g : History) (r : Went History) → outcome core r ≡ ended outs drams g → (t : Store) × (r ≡ went g t)
ended_run core outs drams g (went h s) e = (s, ap (λ x. went x s) (ap history_of e))
  where
    history_of : Outcome → History
    history_of (ended a b c) = c
    history_of _ = h
ended_run core outs drams g stopped e = absurd (true≢false (sym (ap did_end e)))
  where
    did_end : Outcome → Bool
    did_end (ended a b c) = true
    did_end _ = false
ended_run core outs drams g more e = absurd (true≢false (sym (ap did_end e)))
  where
    did_end : Outcome → Bool
    did_end (ended a b c) = true
    did_end _ = false

-- the ports are those of the core
fits_in_lanes : (core : PlainCore) (input : PlainInput) → InputFits core input → InputFits (unrolled core) input
unfolding unrolled
fits_in_lanes core input h = record { args = h.args; drams = h.drams }

pub runs_in_time : (p : PlainProgram) (plan : PlainPlan) (delays : Delays) → ProgramEnds p → ProgramPlanIsSound p plan delays → ProgramRunsInTime p plan delays
unfolding meaning
runs_in_time p plan delays ends sound made input turns fits outs drams h e =
    let x = ends turns input fits outs drams h e in
    let r = ended_run (laned p) outs drams x.0 (run_core in_lanes turns (laned p) input) x.1 in
    record {
      history = x.0;
      ended = r.0;
      ran = r.1;
      words = sym (ap (outcome (laned p)) r.1) ∙ x.1;
      sound = sound made input turns x.0 r.0 (fits_in_lanes (core_of p) input fits) r.1;
      no_oftener = x.2;
    }

pub ends_within : (p : PlainProgram) (plan : PlainPlan) (delays : Delays) (d : ℕ) → StaysCore p → BriskRunsEndWithin (laned p) plan delays d → ProgramEndsWithin p plan delays d
unfolding run_core
ends_within p plan delays d is within waits made brisk input turns outs drams h r n most =
    within waits (patterns_of (laned p)) made.meets is made.timed made.valid brisk turns no_scope (first_store (laned p) input) r.ended r.history r.ran n (at_most _ _ n r.no_oftener most)
  where
    at_most : (a b n : ℕ) → a ≤ b → b ≤ n → a ≤ n
    at_most a b n f g = omega (arith, f, g)
