use Rattle.std.proofs.Common.{ℕ, ◌<◌}
use Rattle.sp_core.specs.CoreParts.{plain_core}
use Rattle.sp_core.specs.Forms.{plain_forms}
use Rattle.sp_plans.specs.Parts.{IsMemRight}
use Rattle.sp_valid.proofs.mems.are_mems_right.Given as goal
use Rattle.sp_valid.specs.Plans.{plan_of}

-- those so far are right
abbrev pub invariant-loop-m : goal.invariant-loop-m
invariant-loop-m l = (j : ℕ) → j < l.m → IsMemRight (plain_core l.core) (plain_forms l.forms) l.meets (plan_of l.mems l.nodes) j
