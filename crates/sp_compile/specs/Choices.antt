-- What is decided of a program.
use Rattle.std.specs.Prelude.{List}
use Rattle.sp_tree.specs.PlainProgram.{PlainProgram}
use Rattle.sp_core.specs.declared.access.Meet.{Meet}
use Rattle.sp_core.specs.Forms.{PlainForms}
use Rattle.sp_core.specs.PlainCore.{PlainCore}
use Rattle.sp_lanes.specs.Unrolled.{unrolled}
use Rattle.sp_meets.specs.Meets.{IsMeetsOf}
use Rattle.sp_narrow.specs.Narrow.{narrow}
use Rattle.sp_patterns.specs.Patterns.{patterns_of}
use Rattle.sp_plan.specs.PlainPlan.{PlainPlan}
use Rattle.sp_plans.specs.Planned.{IsPlanned}
use Rattle.sp_sugar.specs.Core.{core_of}

-- the core of a program, its lanes one after the other
abbrev pub lanes_of : PlainProgram → PlainCore
lanes_of p = unrolled (core_of p)

-- the forms of its accesses
abbrev pub forms_of : PlainProgram → PlainForms
forms_of p = patterns_of (lanes_of p)

-- the core that is built of it: there each load and each store has one lane
abbrev pub built_core : PlainProgram → PlainCore
built_core p = narrow (lanes_of p)

-- the plan that is chosen for a core by the forms of its accesses and by all that meet
pub record IsPlanFor (core : PlainCore) (plan : PlainPlan) : Type 0 where
  pub meets : List Meet
  pub are_meets : IsMeetsOf core (patterns_of core) meets
  pub is_planned : IsPlanned core (patterns_of core) meets plan

-- that of the core in lanes
abbrev pub IsPlanOf : PlainProgram → PlainPlan → Type 0
IsPlanOf p plan = IsPlanFor (lanes_of p) plan
