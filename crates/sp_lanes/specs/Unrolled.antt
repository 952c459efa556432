-- A core whose lanes stand one after the other. A body with one lane is left as it is. The bodies of several lanes stand
-- one after the other, each with memories of its own; a combination stands once, after all of them.
use Rattle.std.specs.Prelude.{ℕ, suc, ◌-◌, ◌==◌, true, false, List, [], ◌∷◌, map, flat_map, Option, Some, None, option_map, if◌then◌else◌}
use Rattle.sp_core.specs.Around.{lanes_of}
use Rattle.sp_core.specs.Declarations.{mem}
use Rattle.sp_core.specs.Elements.{numbers_below}
use Rattle.sp_core.specs.PlainCore.{PlainOp, PlainCounter, PlainNode, PlainStages, inner, outer, fsm, branch, load, store, sparse, no_stage, more_stage, PlainCore}
use Rattle.sp_lanes.specs.Combined.{laned_ops}
use Rattle.sp_lanes.specs.Order.{memory_order}
use Rattle.sp_lanes.specs.Within.{Within, outside, owning, in_lane, ops_in, counters_in, spans_in}

-- the number of the last counter of a controller, which alone has lanes
abbrev pub last_number : List PlainCounter → ℕ
last_number [] = 0
last_number (c ∷ []) = c.number
last_number (c ∷ counters) = last_number counters

-- stages of one lane
abbrev pub stages_in : (lane : ℕ) → List PlainNode → PlainStages → PlainStages
stages_in l [] rest = rest
stages_in l (node ∷ nodes) rest = more_stage l l false node (stages_in l nodes rest)

-- those of each lane in turn
abbrev pub stages_by_lane : (lane : ℕ) → List (List PlainNode) → PlainStages → PlainStages
stages_by_lane l [] rest = rest
stages_by_lane l (nodes ∷ lanes) rest = stages_in l nodes (stages_by_lane (suc l) lanes rest)

-- a combination after so many lanes, if there is one
abbrev pub stage_after : (lanes : ℕ) → Option PlainNode → PlainStages
stage_after lanes None = no_stage
stage_after lanes (Some node) = more_stage 0 (lanes - 1) true node no_stage

-- the stage that combines
abbrev pub combination_of : PlainStages → Option PlainNode
combination_of no_stage = None
combination_of (more_stage first last true node rest) = Some node
combination_of (more_stage first last false node rest) = combination_of rest

-- by the order of the memories
module _ (order : List ℕ) where
  -- the memories that a controller owns, lane by lane
  abbrev pub owned_in_lanes : List PlainCounter → (owned : List ℕ) → Within → List ℕ
  owned_in_lanes counters owned w =
      flat_map (λ l. map (in_lane order counters owned w l).number owned) (numbers_below (lanes_of counters))

  -- the operations of a body in all lanes of a controller
  abbrev pub ops_in_lanes : Within → List PlainCounter → (owned : List ℕ) → List PlainOp → (comb : Option ℕ) → List PlainOp
  ops_in_lanes w counters owned ops comb =
      laned_ops (last_number counters) (in_lane order counters owned w) owned (lanes_of counters) ops comb

  abbrev pub inner_ops : Within → List PlainCounter → (owned : List ℕ) → List PlainOp → (comb : Option ℕ) → List PlainOp
  inner_ops w counters owned ops comb =
      if lanes_of counters == 1 then ops_in (in_lane order counters owned w 0) ops else ops_in_lanes w counters owned ops comb

  -- the combination of a controller with stages, which may be a loop over elements
  abbrev pub combination_in : Within → List PlainCounter → (owned : List ℕ) → PlainNode → PlainNode
  combination_in w counters owned (inner own_counters own ops comb) =
      let inside : Within = in_lane order counters owned w 0 in
      inner (counters_in inside own_counters) (map inside.number own) (ops_in_lanes w counters owned ops comb) None
  combination_in w counters owned node = node

  unfoldable mutual
    pub node_in : Within → PlainNode → PlainNode
    node_in w (inner counters owned ops comb) =
        inner (counters_in w counters) (owned_in_lanes counters owned w) (inner_ops w counters owned ops comb) None
    node_in w (outer counters style owned stages) = elim (lanes_of counters == 1) [
      | true ↦ outer (counters_in w counters) style (owned_in_lanes counters owned w) (left_as_they_are (in_lane order counters owned w 0) stages)
      | false ↦ outer (counters_in w counters) style (owned_in_lanes counters owned w)
          (stages_by_lane 0 (map (λ l. nodes_in (in_lane order counters owned w l) stages) (numbers_below (lanes_of counters)))
          (stage_after (lanes_of counters) (option_map (combination_in w counters owned) (combination_of stages))))
    ]
    node_in w (fsm start state test body next) =
        let inside : Within = owning order (state ∷ []) w in
        fsm (ops_in w start) (inside.number state) (ops_in inside test) (node_in inside body) (ops_in inside next)
    node_in w (branch test first second) = branch (ops_in w test) (node_in w first) (node_in w second)
    node_in w (load r m spans) = load r (w.number m) (spans_in w spans)
    node_in w (store r m spans) = store r (w.number m) (spans_in w spans)
    node_in w (sparse kind r m index spans count par) = sparse kind r (w.number m) (option_map w.number index) (spans_in w spans) (ops_in w count) par

    -- the stages of a body with one lane
    pub left_as_they_are : Within → PlainStages → PlainStages
    left_as_they_are w no_stage = no_stage
    left_as_they_are w (more_stage first last comb node rest) = more_stage first last comb (node_in w node) (left_as_they_are w rest)

    -- those of one lane of several, without the combination
    pub nodes_in : Within → PlainStages → List PlainNode
    nodes_in w no_stage = []
    nodes_in w (more_stage first last true node rest) = nodes_in w rest
    nodes_in w (more_stage first last false node rest) = node_in w node ∷ nodes_in w rest

-- the whole core
unfoldable pub unrolled : PlainCore → PlainCore
unrolled core = record {
  mems = map (mem core) (memory_order core);
  ports = core.ports;
  root = node_in (memory_order core) (outside (memory_order core)) core.root;
}
