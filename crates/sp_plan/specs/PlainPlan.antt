-- Plans as plain values: without where their parts lie in memory.
use Rattle.std.specs.Prelude.{ℕ, Bool, List, Option, None, slice_index_or}
use Rattle.sp_bank.specs.Banking.{Banking}

-- of a memory: its scheme, how many copies it has, and how many duplicates each copy has
pub record PlainMemPlan : Type 0 where
  pub scheme : Option Banking
  pub depth : ℕ
  pub duplicates : ℕ

pub data PlainNodePlan : Type 0 where
  -- an inner body: the time of each operation from the issue of its group on, how many cycles one group is issued after
  -- another, when the last operation is over, and whether they are done one after the other
  inner_plan : (times : List ℕ) → (ii latency : ℕ) → (serial : Bool) → PlainNodePlan
  -- an outer body: for each stage its slot, and its chain in that slot
  outer_plan : (slots chains : List ℕ) → PlainNodePlan
  other_plan : PlainNodePlan

-- memories by number, nodes in preorder
pub record PlainPlan : Type 0 where
  pub mems : List PlainMemPlan
  pub nodes : List PlainNodePlan

abbrev pub no_mem_plan : PlainMemPlan
no_mem_plan = record { scheme = None; depth = 0; duplicates = 0 }

abbrev pub mem_plan : PlainPlan → ℕ → PlainMemPlan
mem_plan plan m = slice_index_or plan.mems m no_mem_plan

abbrev pub node_plan : PlainPlan → ℕ → PlainNodePlan
node_plan plan k = slice_index_or plan.nodes k other_plan
