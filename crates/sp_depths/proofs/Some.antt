-- A memory has at least one copy.
use Rattle.std.proofs.Common.{ℕ, suc, ◌≤◌, Bool, true, false, List, [], ◌∷◌, arith}
use Rattle.std.specs.Prelude.{◌&&◌, not, slice_index_or, if◌then◌else◌}
use Rattle.sp_core.specs.Declarations.{is_among, is_stream}
use Rattle.sp_core.specs.PlainCore.{PlainNode, PlainStages, outer, fsm, branch, no_stage, more_stage, PlainCore}
use Rattle.sp_depths.specs.Depths.{depth_in, depth_in_stages}
use Rattle.sp_plan.specs.Copies.{is_loop, copies, slots_between, used_slots}
use Rattle.sp_plan.specs.PlainPlan.{PlainNodePlan, inner_plan, outer_plan, other_plan}

-- of two numbers that aren't 0, a choice isn't
pub either : (b : Bool) (x y : ℕ) → 1 ≤ x → 1 ≤ y → 1 ≤ (if b then x else y)
either true x y p q = p
either false x y p q = q

some_between : (slots : List ℕ) → 1 ≤ slots_between slots
some_between [] = omega arith
some_between (s ∷ slots) = omega arith

some_copies : (core : PlainCore) (m : ℕ) (stages : PlainStages) (plan : PlainNodePlan) → 1 ≤ copies core m stages plan
some_copies core m stages (outer_plan slots chains) = some_between (used_slots core m stages slots)
some_copies core m stages (inner_plan times ii latency serial) = omega arith
some_copies core m stages other_plan = omega arith

module _ (core : PlainCore) (nodes : List PlainNodePlan) (m : ℕ) where
  mutual
    pub some_depth : (k : ℕ) (node : PlainNode) → 1 ≤ depth_in core nodes m k node
    some_depth k (outer counters style owned stages) =
        either ((is_loop counters && not (is_stream style)) && is_among m owned) _ _ (some_copies core m stages (slice_index_or nodes k other_plan)) (some_depths (suc k) stages)
    some_depth k (fsm start state test body next) = some_depth (suc k) body
    some_depth k (branch test first second) = let a : 1 ≤ depth_in core nodes m (suc k) first = some_depth (suc k) first in omega arith
    some_depth k node = omega arith

    pub some_depths : (k : ℕ) (stages : PlainStages) → 1 ≤ depth_in_stages core nodes m k stages
    some_depths k no_stage = omega arith
    some_depths k (more_stage first last comb node rest) = let a : 1 ≤ depth_in core nodes m k node = some_depth k node in omega arith
