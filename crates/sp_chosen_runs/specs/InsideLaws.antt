-- Reads and writes of a run are at elements that their memories have, as statements.
use Rattle.std.specs.Prelude.{◌≡◌, ℕ, Bool, true, false, pos, map}
use Rattle.sp_words.specs.Ports.{PlainInput}
use Rattle.sp_core.specs.Declarations.{dims}
use Rattle.sp_core.specs.Elements.{are_inside}
use Rattle.sp_core.specs.Events.{Act, reads, writes, Moment, touches, core_moments}
use Rattle.sp_core.specs.History.{History}
use Rattle.sp_core.specs.Invariant.{IsCore}
use Rattle.sp_core.specs.Meaning.{run_core}
use Rattle.sp_core.specs.PlainCore.{PlainCore}
use Rattle.sp_core.specs.Scope.{in_lanes}
use Rattle.sp_core.specs.Step.{went}
use Rattle.sp_core.specs.Store.{Store}
use Rattle.sp_plan.specs.PlainPlan.{PlainPlan}
use Rattle.sp_time.specs.Lists.{Each}
use Rattle.sp_machine.specs.Timeline.{core_timed}
use Rattle.sp_machine.specs.Transfers.{Delays}
use Rattle.sp_overlap.specs.Whole.{IsTimed}

-- a word is read or written
abbrev pub is_of_word : Act → Bool
is_of_word (reads w) = true
is_of_word (writes w) = true
is_of_word _ = false

-- at one index for each dimension, inside of it
abbrev pub IsInside : PlainCore → Moment → Type 0
IsInside core (touches e) = is_of_word e.act ≡ true → are_inside (dims core e.mem) (map pos e.indices) ≡ true
IsInside core moment = Unit {0}

-- so it is in each run in lanes of a core
abbrev pub RunsStayInside : PlainCore → Type 0
RunsStayInside core =
    IsCore core → IsTimed core.root → (input : PlainInput) (turns : ℕ) (h : History) (t : Store) → run_core in_lanes turns core input ≡ went h t → Each (IsInside core) (core_moments core in_lanes h)

-- and in its timeline by any plan
abbrev pub TimelinesStayInside : PlainCore → PlainPlan → Delays → Type 0
TimelinesStayInside core plan delays =
    IsCore core → IsTimed core.root → (input : PlainInput) (turns : ℕ) (h : History) (t : Store) → run_core in_lanes turns core input ≡ went h t → Each (λ s. IsInside core s.moment) (core_timed core plan delays h).events
