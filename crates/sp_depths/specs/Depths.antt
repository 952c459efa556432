-- How many copies memories have by the slots of the loops that own them.
use Rattle.std.specs.Prelude.{ℕ, suc, ◌+◌, max, not, ◌&&◌, List, slice_index_or, if◌then◌else◌}
use Rattle.sp_core.specs.Declarations.{is_among, is_stream}
use Rattle.sp_core.specs.Numbering.{node_count}
use Rattle.sp_core.specs.PlainCore.{PlainNode, PlainStages, outer, fsm, branch, no_stage, more_stage, PlainCore}
use Rattle.sp_plan.specs.Copies.{is_loop, copies}
use Rattle.sp_plan.specs.PlainPlan.{PlainNodePlan, other_plan}

module _ (core : PlainCore) (nodes : List PlainNodePlan) where
  -- a loop's memory has a copy for each slot from its first use to its last; what no loop of a part owns has one
  abbrev mutual
    pub depth_in : (mem node : ℕ) → PlainNode → ℕ
    depth_in m k (outer counters style owned stages) =
        if (is_loop counters && not (is_stream style)) && is_among m owned
        then copies core m stages (slice_index_or nodes k other_plan)
        else depth_in_stages m (suc k) stages
    depth_in m k (fsm start state test body next) = depth_in m (suc k) body
    depth_in m k (branch test first second) = max (depth_in m (suc k) first) (depth_in m (suc k + node_count first) second)
    depth_in m k _ = 1

    pub depth_in_stages : (mem node : ℕ) → PlainStages → ℕ
    depth_in_stages m k no_stage = 1
    depth_in_stages m k (more_stage first last comb node rest) = max (depth_in m k node) (depth_in_stages m (k + node_count node) rest)

  -- a memory's owner is one, so this is what that one says
  abbrev pub depth_of : (mem : ℕ) → ℕ
  depth_of m = depth_in m 0 core.root
