-- Runs by a plan that is valid for a core's own forms and meets.
use Rattle.std.specs.Prelude.{◌≡◌, ℕ, List, []}
use Rattle.sp_words.specs.Ports.{PlainInput}
use Rattle.sp_core.specs.declared.access.Meet.{Meet}
use Rattle.sp_core.specs.History.{History}
use Rattle.sp_core.specs.Inputs.{InputFits}
use Rattle.sp_core.specs.Meaning.{first_store, run_core}
use Rattle.sp_core.specs.PlainCore.{PlainCore}
use Rattle.sp_core.specs.Scope.{in_lanes}
use Rattle.sp_core.specs.Step.{went}
use Rattle.sp_core.specs.Store.{Store}
use Rattle.sp_plan.specs.PlainPlan.{PlainPlan}
use Rattle.sp_machine.specs.Transfers.{Delays}
use Rattle.sp_contents.specs.Found.{first_contents, IsFound}
use Rattle.sp_overlap.specs.Whole.{HasPlan}
use Rattle.sp_patterns.specs.Patterns.{patterns_of}
use Rattle.sp_ports.specs.Whole.{InnersShareNone}
use Rattle.sp_meets.specs.Meets.{IsMeetsOf}

-- by such a plan, in each run of the core from an input that fits, each moment finds in its own cycle what it finds in the order
-- of the text, and no run of an inner body shares a port of a bank, other than as one tap
abbrev pub OwnPlansAreSound : PlainCore → PlainPlan → Delays → Type 0
OwnPlansAreSound core plan delays =
    (meets : List Meet) → HasPlan core (patterns_of core) meets plan → IsMeetsOf core (patterns_of core) meets
    → (input : PlainInput) (turns : ℕ) (h : History) (t : Store) → InputFits core input → run_core in_lanes turns core input ≡ went h t
    → IsFound core plan delays h t (first_contents core input) × InnersShareNone core plan delays (patterns_of core) core.root 0 0 (record { path = []; counters = [] }) (λ m. 0) h
