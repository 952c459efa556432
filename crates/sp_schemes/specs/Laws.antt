-- What chosen schemes are good for.
use Rattle.std.specs.Prelude.{ℕ, Option, List}
use Rattle.sp_bank.specs.Banking.{Banking}
use Rattle.sp_core.specs.declared.access.Meet.{Meet}
use Rattle.sp_core.specs.Forms.{PlainForms}
use Rattle.sp_core.specs.Invariant.{IsCore}
use Rattle.sp_core.specs.PlainCore.{PlainCore}
use Rattle.sp_plan.specs.Groups.{Separated}
use Rattle.sp_plan.specs.PlainPlan.{PlainPlan}
use Rattle.sp_plan.specs.Validity.{EachNode, EachMem, group_rule, is_scheme_right, schemes_of}
use Rattle.sp_schemes.specs.Chosen.{AreChosen}

-- a plan with these schemes keeps the rules of valid plans on schemes
pub record AreSchemesRight (core : PlainCore) (forms : PlainForms) (meets : List Meet) (plan : PlainPlan) : Type 0 where
  pub schemes : EachMem core forms meets plan (is_scheme_right core forms meets plan)
  pub groups : EachNode core forms meets plan (group_rule core forms meets plan)
  pub separated : Separated core forms (schemes_of plan) 0 core.root

abbrev pub ChosenAreRight : Type 0
ChosenAreRight = (core : PlainCore) (forms : PlainForms) (meets : List Meet) (plan : PlainPlan) → AreChosen core forms (schemes_of plan) → AreSchemesRight core forms meets plan
