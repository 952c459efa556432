-- Nodes in lanes keep their kinds.
use Rattle.std.proofs.Common.{ℕ, suc, Bool, true, false, List, [], ◌∷◌, map, ◌==◌, option_map}
use Rattle.sp_core.specs.Around.{lanes_of}
use Rattle.sp_core.specs.Elements.{numbers_below}
use Rattle.sp_core.specs.PlainCore.{PlainCounter, PlainNode, PlainStages, inner, outer, fsm, branch, load, store, sparse, no_stage, more_stage, PlainCore}
use Rattle.sp_lanes.specs.Order.{memory_order}
use Rattle.sp_lanes.specs.Unrolled.{unrolled, node_in, left_as_they_are, nodes_in, stages_in, stages_by_lane, stage_after, combination_of, combination_in, owned_in_lanes}
use Rattle.sp_lanes.specs.Within.{Within, outside, owning, in_lane, counters_in}
use Rattle.sp_overlap.specs.Whole.{IsTimed, AreTimed}
use Rattle.sp_lane_programs.specs.TimedLaws.{StaysTimed}

-- each node of a list, and of lists
abbrev AllTimed : List PlainNode → Type 0
AllTimed [] = Unit {0}
AllTimed (node ∷ nodes) = IsTimed node × AllTimed nodes

abbrev EachTimed : List (List PlainNode) → Type 0
EachTimed [] = Unit {0}
EachTimed (nodes ∷ lanes) = AllTimed nodes × EachTimed lanes

lane_timed : (l : ℕ) (nodes : List PlainNode) (rest : PlainStages) → AllTimed nodes → AreTimed rest → AreTimed (stages_in l nodes rest)
lane_timed l [] rest h k = k
lane_timed l (node ∷ nodes) rest h k = (h.0, lane_timed l nodes rest h.1 k)

lanes_timed : (l : ℕ) (lanes : List (List PlainNode)) (rest : PlainStages) → EachTimed lanes → AreTimed rest → AreTimed (stages_by_lane l lanes rest)
lanes_timed l [] rest h k = k
lanes_timed l (nodes ∷ lanes) rest h k = lane_timed l nodes (stages_by_lane (suc l) lanes rest) h.0 (lanes_timed (suc l) lanes rest h.1 k)

each_timed : (f : ℕ → List PlainNode) → ((l : ℕ) → AllTimed (f l)) → (ls : List ℕ) → EachTimed (map f ls)
each_timed f h [] = tt
each_timed f h (l ∷ ls) = (h l, each_timed f h ls)

either : (b : Bool) (x y : PlainNode) → IsTimed x → IsTimed y → IsTimed (elim b as (λ _. PlainNode) [ true ↦ x | false ↦ y ])
either true x y h k = h
either false x y h k = k

module _ (order : List ℕ) where
  combined_timed : (w : Within) (counters : List PlainCounter) (owned : List ℕ) (node : PlainNode) → IsTimed node → IsTimed (combination_in order w counters owned node)
  combined_timed w counters owned (inner own_counters own ops comb) h = tt
  combined_timed w counters owned (outer own_counters style own stages) h = h
  combined_timed w counters owned (fsm start state test body next) h = h
  combined_timed w counters owned (branch test first second) h = h
  combined_timed w counters owned (load r m spans) h = h
  combined_timed w counters owned (store r m spans) h = h
  combined_timed w counters owned (sparse kind r m places spans count par) h = h

  after_timed : (w : Within) (counters : List PlainCounter) (owned : List ℕ) (lanes : ℕ) (stages : PlainStages) → AreTimed stages → AreTimed (stage_after lanes (option_map (combination_in order w counters owned) (combination_of stages)))
  after_timed w counters owned lanes no_stage h = tt
  after_timed w counters owned lanes (more_stage first last true node rest) h = (combined_timed w counters owned node h.0, tt)
  after_timed w counters owned lanes (more_stage first last false node rest) h = after_timed w counters owned lanes rest h.1

  mutual
    unfolding node_in left_as_they_are nodes_in

    node_timed : (w : Within) (node : PlainNode) → IsTimed node → IsTimed (node_in order w node)
    node_timed w (inner counters owned ops comb) h = tt
    node_timed w (outer counters style owned stages) h =
        either (lanes_of counters == 1)
        (outer (counters_in w counters) style (owned_in_lanes order counters owned w) (left_as_they_are order (in_lane order counters owned w 0) stages))
        (outer (counters_in w counters) style (owned_in_lanes order counters owned w)
        (stages_by_lane 0 (map (λ l. nodes_in order (in_lane order counters owned w l) stages) (numbers_below (lanes_of counters))) (stage_after (lanes_of counters) (option_map (combination_in order w counters owned) (combination_of stages)))))
        (h.0, left_timed (in_lane order counters owned w 0) stages h.1) (
          h.0,
          lanes_timed 0 (map (λ l. nodes_in order (in_lane order counters owned w l) stages) (numbers_below (lanes_of counters))) _ (each_timed (λ l. nodes_in order (in_lane order counters owned w l) stages) (λ l. own_timed (in_lane order counters owned w l) stages h.1) (numbers_below (lanes_of counters)))
              (after_timed w counters owned (lanes_of counters) stages h.1),
        )
    node_timed w (fsm start state test body next) h = node_timed (owning order (state ∷ []) w) body h
    node_timed w (branch test first second) h = (node_timed w first h.0, node_timed w second h.1)
    node_timed w (load r m spans) h = tt
    node_timed w (store r m spans) h = tt
    node_timed w (sparse kind r m places spans count par) h = absurd h

    left_timed : (w : Within) (stages : PlainStages) → AreTimed stages → AreTimed (left_as_they_are order w stages)
    left_timed w no_stage h = tt
    left_timed w (more_stage first last comb node rest) h = (node_timed w node h.0, left_timed w rest h.1)

    own_timed : (w : Within) (stages : PlainStages) → AreTimed stages → AllTimed (nodes_in order w stages)
    own_timed w no_stage h = tt
    own_timed w (more_stage first last true node rest) h = own_timed w rest h.1
    own_timed w (more_stage first last false node rest) h = (node_timed w node h.0, own_timed w rest h.1)

pub stays_timed : (core : PlainCore) → StaysTimed core
unfolding unrolled
stays_timed core h = node_timed (memory_order core) (outside (memory_order core)) core.root h
