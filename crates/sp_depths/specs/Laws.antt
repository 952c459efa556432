-- What the copies by slots are good for.
use Rattle.std.specs.Prelude.{◌≡◌, ℕ, ◌<◌, List, length}
use Rattle.sp_core.specs.declared.access.Meet.{Meet}
use Rattle.sp_core.specs.Forms.{PlainForms}
use Rattle.sp_core.specs.Invariant.{IsCore}
use Rattle.sp_core.specs.PlainCore.{PlainCore}
use Rattle.sp_depths.specs.Depths.{depth_of}
use Rattle.sp_plan.specs.Copies.{is_single}
use Rattle.sp_plan.specs.PlainPlan.{PlainPlan, mem_plan}
use Rattle.sp_plan.specs.Validity.{EachNode, EachMem, copy_rule}

-- each memory has as many copies as the slots of its owner ask
abbrev pub HasDepths : PlainCore → PlainPlan → Type 0
HasDepths core plan = (m : ℕ) → m < length core.mems → (mem_plan plan m).depth ≡ depth_of core plan.nodes m

-- then a plan keeps the rules of valid plans on copies
pub record AreCopiesRight (core : PlainCore) (forms : PlainForms) (meets : List Meet) (plan : PlainPlan) : Type 0 where
  pub copied : EachNode core forms meets plan (copy_rule core forms meets plan)
  pub single : EachMem core forms meets plan (is_single core plan)

abbrev pub DepthsAreRight : Type 0
DepthsAreRight = (core : PlainCore) (forms : PlainForms) (meets : List Meet) (plan : PlainPlan) → IsCore core → HasDepths core plan → AreCopiesRight core forms meets plan
