use Rattle.std.proofs.Common.{ℕ, ◌<◌}
use Rattle.sp_core.specs.CoreParts.{plain_core}
use Rattle.sp_core.specs.Forms.{plain_forms}
use Rattle.sp_plans.specs.Parts.{IsNodeRight}
use Rattle.sp_valid.proofs.nodes.are_nodes_right.Given as goal
use Rattle.sp_valid.specs.Plans.{plan_of}

-- those so far are right
abbrev pub invariant-loop-k : goal.invariant-loop-k
invariant-loop-k l = (j : ℕ) → j < l.k → IsNodeRight (plain_core l.core) (plain_forms l.forms) l.meets (plan_of l.mems l.nodes) j
