-- A plan judged node by node and memory by memory.
use Rattle.std.specs.Prelude.{◌≡◌, ℕ, ◌<◌, ◌&&◌, false, IsTrue, List, length, Option, Some, None}
use Rattle.sp_bank.specs.Banking.{Banking}
use Rattle.sp_core.specs.declared.access.Meet.{Meet}
use Rattle.sp_core.specs.Forms.{PlainForms}
use Rattle.sp_core.specs.Numbering.{node_count}
use Rattle.sp_core.specs.PlainCore.{PlainCore}
use Rattle.sp_depths.specs.Depths.{depth_of}
use Rattle.sp_plan.specs.Copies.{duplicates}
use Rattle.sp_plan.specs.Groups.{Separated}
use Rattle.sp_plan.specs.Nodes.{NodeRule, holds_of_each, site_at, keeps_at}
use Rattle.sp_plan.specs.PlainPlan.{PlainPlan, mem_plan}
use Rattle.sp_plan.specs.Validity.{fits_scheme, kind_rule, time_rule, slot_rule}
use Rattle.sp_schemes.specs.Chosen.{only, grouped_rule}

-- a scheme serves a memory that alone has one
pub record Serves (core : PlainCore) (forms : PlainForms) (m : ℕ) (b : Banking) : Type 0 where
  pub fits : IsTrue (fits_scheme core m (Some b))
  pub grouped : IsTrue (holds_of_each (grouped_rule core forms m b) 0 0 false core.root)
  pub separated : Separated core forms (only m b) 0 core.root

abbrev pub IsServed : PlainCore → PlainForms → (mem : ℕ) → Option Banking → Type 0
IsServed core forms m None = Unit {0}
IsServed core forms m (Some b) = Serves core forms m b

module _ (core : PlainCore) (forms : PlainForms) (meets : List Meet) (plan : PlainPlan) where
  -- the plan of a node is of its kind, and its times, or its slots and chains, are right
  abbrev pub node_rules : NodeRule
  node_rules k n streamed node =
      kind_rule core forms meets plan k n streamed node && (time_rule core forms meets plan k n streamed node && slot_rule core forms meets plan k n streamed node)

  abbrev pub IsNodeRight : (node : ℕ) → Type 0
  IsNodeRight k = IsTrue (keeps_at node_rules k (site_at k 0 false core.root))

  -- a memory's scheme serves it, and it has the copies and the duplicates that are asked
  pub record IsMemRight (m : ℕ) : Type 0 where
    pub scheme : IsServed core forms m (mem_plan plan m).scheme
    pub depth : (mem_plan plan m).depth ≡ depth_of core plan.nodes m
    pub duplicates : (mem_plan plan m).duplicates ≡ duplicates core m

  pub record IsRightByParts : Type 0 where
    pub memories : length plan.mems ≡ length core.mems
    pub nodes : length plan.nodes ≡ node_count core.root
    pub each_node : (k : ℕ) → k < node_count core.root → IsNodeRight k
    pub each_mem : (m : ℕ) → m < length core.mems → IsMemRight m
