-- The plan of a core that is chosen: schemes, times, slots, chains, copies and duplicates.
use Rattle.std.specs.Prelude.{◌≡◌, ℕ, ◌+◌, ◌<◌, Bool, true, false, List, [], ◌∷◌, length, Option, slice_index_or}
use Rattle.sp_bank.specs.Banking.{Banking}
use Rattle.sp_core.specs.declared.access.Meet.{Meet}
use Rattle.sp_core.specs.Forms.{PlainForms}
use Rattle.sp_core.specs.Numbering.{node_count}
use Rattle.sp_core.specs.PlainCore.{PlainCore}
use Rattle.sp_depths.specs.Depths.{depth_of}
use Rattle.sp_depths.specs.Laws.{HasDepths}
use Rattle.sp_plan.specs.Copies.{duplicates, is_duplicated}
use Rattle.sp_plan.specs.PlainPlan.{PlainMemPlan, PlainNodePlan, other_plan, PlainPlan}
use Rattle.sp_plan.specs.Validity.{EachMem, schemes_of}
use Rattle.sp_sched.specs.Least.{IsLeastPlan}
use Rattle.sp_schemes.specs.Chosen.{AreChosen}
use Rattle.sp_stages.specs.Plans.{is_outer_of, IsFinestPlan}

module _ (core : PlainCore) (meets : List Meet) (schemes : List (Option Banking)) where
  -- an outer body has the finest slots and chains, an inner body the least times; of any other node nothing is planned
  abbrev pub IsBestBy : (is_outer : Bool) → (node : ℕ) → PlainNodePlan → Type 0
  IsBestBy true k plan = IsFinestPlan core meets k plan
  IsBestBy false k plan = IsLeastPlan core schemes meets k plan

  abbrev pub IsBestPlan : (node : ℕ) → PlainNodePlan → Type 0
  IsBestPlan k plan = IsBestBy (is_outer_of core k) k plan

  -- the plans of all nodes
  abbrev pub AreBestPlans : (nodes : List PlainNodePlan) → Type 0
  AreBestPlans nodes = (k : ℕ) → k < node_count core.root → IsBestPlan k (slice_index_or nodes k other_plan)

-- each memory has the first scheme that it may have, each node its best plan for these schemes, and each memory the copies
-- and the duplicates that these ask
pub record IsPlanned (core : PlainCore) (forms : PlainForms) (meets : List Meet) (plan : PlainPlan) : Type 0 where
  pub memories : length plan.mems ≡ length core.mems
  pub nodes : length plan.nodes ≡ node_count core.root
  pub schemes : AreChosen core forms (schemes_of plan)
  pub best : AreBestPlans core meets (schemes_of plan) plan.nodes
  pub depths : HasDepths core plan
  pub duplicated : EachMem core forms meets plan (is_duplicated core plan)

module _ (core : PlainCore) (nodes : List PlainNodePlan) where
  -- a memory of this scheme, by the plans of the nodes
  abbrev pub mem_by : (mem : ℕ) → Option Banking → PlainMemPlan
  mem_by m scheme = record { scheme = scheme; depth = depth_of core nodes m; duplicates = duplicates core m }

  -- the memories of these schemes, by the number of the first one
  abbrev pub mems_by : (first : ℕ) → List (Option Banking) → List PlainMemPlan
  mems_by m [] = []
  mems_by m (scheme ∷ rest) = mem_by m scheme ∷ mems_by (m + 1) rest
