-- What chosen plans are good for, and how any plan is judged by its parts.
use Rattle.std.specs.Prelude.{ℕ, ◌≤◌, ◌^◌, ◌↔◌, List, Option}
use Rattle.sp_bank.specs.Banking.{Banking}
use Rattle.sp_core.specs.declared.access.Meet.{Meet}
use Rattle.sp_core.specs.Forms.{PlainForms}
use Rattle.sp_core.specs.Invariant.{IsCore}
use Rattle.sp_core.specs.PlainCore.{PlainCore}
use Rattle.sp_depths.specs.Depths.{depth_of}
use Rattle.sp_plan.specs.PlainPlan.{PlainNodePlan, PlainPlan}
use Rattle.sp_plan.specs.Validity.{IsValid}
use Rattle.sp_plans.specs.Parts.{IsRightByParts}
use Rattle.sp_plans.specs.Planned.{AreBestPlans, IsPlanned}

-- a chosen plan is valid
abbrev pub ChosenAreValid : Type 0
ChosenAreValid = (core : PlainCore) (forms : PlainForms) (meets : List Meet) (plan : PlainPlan) → IsCore core → IsPlanned core forms meets plan → IsValid core forms meets plan

-- by the best plans of the nodes the copies of a memory are few
abbrev pub CopiesAreFew : Type 0
CopiesAreFew = (core : PlainCore) (meets : List Meet) (schemes : List (Option Banking)) (nodes : List PlainNodePlan) → IsCore core → AreBestPlans core meets schemes nodes → (m : ℕ) → depth_of core nodes m ≤ 2 ^ 30

-- any plan is valid exactly where its nodes and its memories are right, one by one
abbrev pub ValidByParts : Type 0
ValidByParts = (core : PlainCore) (forms : PlainForms) (meets : List Meet) (plan : PlainPlan) → IsCore core → (IsValid core forms meets plan ↔ IsRightByParts core forms meets plan)
