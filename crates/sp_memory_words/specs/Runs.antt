-- Runs of a core by a valid plan are such that circuits may follow them, as a statement.
use Rattle.std.specs.Prelude.{◌≡◌, ℕ, List, Option}
use Rattle.sp_words.specs.Memory.{Contents}
use Rattle.sp_words.specs.Ports.{PlainInput}
use Rattle.sp_core.specs.declared.access.Meet.{Meet}
use Rattle.sp_core.specs.Forms.{PlainForms}
use Rattle.sp_core.specs.History.{History}
use Rattle.sp_core.specs.Meaning.{run_core}
use Rattle.sp_core.specs.PlainCore.{PlainCore}
use Rattle.sp_core.specs.Scope.{in_lanes}
use Rattle.sp_core.specs.Step.{went}
use Rattle.sp_core.specs.Store.{Store}
use Rattle.sp_plan.specs.PlainPlan.{PlainPlan}
use Rattle.sp_time.specs.Places.{Place}
use Rattle.sp_machine.specs.Timeline.{core_timed}
use Rattle.sp_machine.specs.Transfers.{Delays}
use Rattle.sp_overlap.specs.Whole.{HasPlan}
use Rattle.sp_contents.specs.Found.{IsFound}
use Rattle.sp_memory_words.specs.Moments.{HappensWell}

abbrev pub RunsHappenWell : PlainCore → PlainPlan → Delays → Type 0
RunsHappenWell core plan delays =
    (forms : PlainForms) (meets : List Meet) → HasPlan core forms meets plan → (input : PlainInput) (turns : ℕ) (h : History) (t : Store) → run_core in_lanes turns core input ≡ went h t
    → (first : Place → Option Contents) → IsFound core plan delays h t first → HappensWell core plan (core_timed core plan delays h).events first
