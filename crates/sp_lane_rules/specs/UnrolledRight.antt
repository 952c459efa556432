-- Nodes that keep the rules of cores, each by what stands around it; and what bodies of several lanes combine.
use Rattle.std.specs.Prelude.{◌≡◌, ◌⊎◌, None, IsTrue}
use Rattle.sp_core.specs.Around.{Around, within, lanes_of}
use Rattle.sp_core.specs.NodeRules.{with_state, is_node_right}
use Rattle.sp_core.specs.PlainCore.{PlainNode, PlainStages, inner, outer, fsm, branch, no_stage, more_stage, PlainCore}
use Rattle.sp_lanes.specs.Unrolled.{combination_of}
use Rattle.sp_lane_rules.specs.UnrolledMeetings.{IsBalanced}

-- each node of a part keeps its own rules
abbrev mutual
  pub EachRight : PlainCore → Around → PlainNode → Type 0
  EachRight core around (outer counters style owned stages) = IsTrue (is_node_right core around (outer counters style owned stages)) × AllRight core (within around counters owned) stages
  EachRight core around (fsm start state test body next) = IsTrue (is_node_right core around (fsm start state test body next)) × EachRight core (with_state core around state) body
  EachRight core around (branch test first second) = IsTrue (is_node_right core around (branch test first second)) × EachRight core around first × EachRight core around second
  EachRight core around node = IsTrue (is_node_right core around node)

  pub AllRight : PlainCore → Around → PlainStages → Type 0
  AllRight core around no_stage = Unit {0}
  AllRight core around (more_stage first last comb node rest) = EachRight core around node × AllRight core around rest

-- where a controller of several lanes combines, it is an inner body, and its operator is balanced
abbrev mutual
  pub CombinesByTree : PlainNode → Type 0
  CombinesByTree (inner counters owned ops comb) = (lanes_of counters ≡ 1) ⊎ IsBalanced ops comb
  CombinesByTree (outer counters style owned stages) = ((lanes_of counters ≡ 1) ⊎ (combination_of stages ≡ None)) × CombineByTree stages
  CombinesByTree (fsm start state test body next) = CombinesByTree body
  CombinesByTree (branch test first second) = CombinesByTree first × CombinesByTree second
  CombinesByTree _ = Unit {0}

  pub CombineByTree : PlainStages → Type 0
  CombineByTree no_stage = Unit {0}
  CombineByTree (more_stage first last comb node rest) = CombinesByTree node × CombineByTree rest
