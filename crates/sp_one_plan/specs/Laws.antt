-- That nothing is left open in what is chosen for a core.
use Rattle.std.specs.Prelude.{◌≡◌, ℕ, List, Option}
use Rattle.sp_bank.specs.Banking.{Banking}
use Rattle.sp_core.specs.declared.access.Meet.{Meet}
use Rattle.sp_core.specs.Forms.{PlainForms}
use Rattle.sp_core.specs.PlainCore.{PlainCore}
use Rattle.sp_plan.specs.PlainPlan.{PlainNodePlan, PlainPlan}
use Rattle.sp_plans.specs.Planned.{IsBestPlan, IsPlanned}
use Rattle.sp_schemes.specs.Chosen.{IsChosen}

-- a memory has one chosen scheme, or none
abbrev pub MemsHaveOneScheme : Type 0
MemsHaveOneScheme = (core : PlainCore) (forms : PlainForms) (m : ℕ) (x y : Option Banking) → IsChosen core forms m x → IsChosen core forms m y → x ≡ y

-- a node has one best plan for these schemes
abbrev pub NodesHaveOnePlan : Type 0
NodesHaveOnePlan =
    (core : PlainCore) (meets : List Meet) (schemes : List (Option Banking)) (k : ℕ) (p q : PlainNodePlan) →
    IsBestPlan core meets schemes k p → IsBestPlan core meets schemes k q → p ≡ q

-- a core has one plan for these forms and meets
abbrev pub CoresHaveOnePlan : Type 0
CoresHaveOnePlan =
    (core : PlainCore) (forms : PlainForms) (meets : List Meet) (p q : PlainPlan) → IsPlanned core forms meets p → IsPlanned core forms meets q → p ≡ q
