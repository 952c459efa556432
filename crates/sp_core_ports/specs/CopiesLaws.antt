-- The copies that a run uses are those of the plan, as statements.
use Rattle.std.specs.Prelude.{◌≡◌, ℕ, ◌<◌, true, List, length}
use Rattle.sp_core.specs.declared.access.Meet.{Meet}
use Rattle.sp_core.specs.Events.{Moment, touches, slices, renews, keeps}
use Rattle.sp_core.specs.Forms.{PlainForms}
use Rattle.sp_core.specs.History.{History}
use Rattle.sp_core.specs.PlainCore.{PlainCore}
use Rattle.sp_core.specs.Declarations.{mem}
use Rattle.sp_plan.specs.PlainPlan.{PlainPlan, mem_plan}
use Rattle.sp_plan.specs.Ports.{has_banks}
use Rattle.sp_time.specs.Lists.{Each}
use Rattle.sp_machine.specs.Stamps.{Stamped}
use Rattle.sp_machine.specs.Timeline.{core_timed}
use Rattle.sp_machine.specs.Transfers.{Delays}
use Rattle.sp_overlap.specs.Whole.{HasPlan}

module _ (core : PlainCore) (plan : PlainPlan) where
  -- a copy of a memory on the chip is one of those that the plan has
  abbrev pub IsCopy : (mem copy : ℕ) → Type 0
  IsCopy m c = m < length core.mems → c < (mem_plan plan m).depth

  abbrev pub HasCopy : (copy : ℕ) → Moment → Type 0
  HasCopy c (touches e) = IsCopy e.mem c
  HasCopy c (slices s) = Unit {0}
  HasCopy c (renews m) = IsCopy m c
  HasCopy c (keeps m w) = IsCopy m c

-- by a valid plan each moment of a run is at one
abbrev pub RunsHaveCopies : PlainCore → PlainPlan → Delays → Type 0
RunsHaveCopies core plan delays =
    (forms : PlainForms) (meets : List Meet) → HasPlan core forms meets plan → (h : History) → Each (λ (s : Stamped). HasCopy core plan s.copy s.moment) (core_timed core plan delays h).events

-- a memory has a copy, and one with banks a duplicate
pub record HasSome (core : PlainCore) (plan : PlainPlan) (m : ℕ) : Type 0 where
  pub copy : 0 < (mem_plan plan m).depth
  pub duplicate : has_banks (mem core m).kind ≡ true → 0 < (mem_plan plan m).duplicates

-- by a valid plan so it is with each memory
abbrev pub PlansHaveCopies : PlainCore → PlainPlan → Type 0
PlansHaveCopies core plan = (forms : PlainForms) (meets : List Meet) → HasPlan core forms meets plan → (m : ℕ) → m < length core.mems → HasSome core plan m
