-- Runs of a node in a run of a core, each from the cycle on in which it is started; and from them the runs of its parts, in the
-- cycles of the timeline.
use Rattle.std.specs.Prelude.{ℕ, zero, suc, ◌+◌, ◌≤◌, Bool, true, false, ℤ, List, [], ◌∷◌, ◌++◌, flat_map, length, Option, Some, None}
use Rattle.sp_core.specs.Events.{Standing, inside_at, in_group_of, in_turn}
use Rattle.sp_core.specs.History.{History, Groups, Runs, Turns, outer_ran, fsm_ran, branch_ran, more_group, masked_run, more_run, no_turn, more_turn}
use Rattle.sp_core.specs.Latency.{latency_of_all}
use Rattle.sp_core.specs.Numbering.{counters_size, node_count, number_count}
use Rattle.sp_core.specs.PlainCore.{PlainOp, PlainCounter, PlainNode, PlainStages, inner, no_stage, more_stage, PlainCore}
use Rattle.sp_core.specs.Scope.{in_lanes, loops_of, group_values}
use Rattle.sp_plan.specs.PlainPlan.{PlainPlan, node_plan}
use Rattle.sp_time.specs.Beats.{Run, took_at, starts}
use Rattle.sp_machine.specs.Stamps.{Stamped, Copies, later}
use Rattle.sp_machine.specs.Timeline.{slots_of, in_copies, timed, group_runs}
use Rattle.sp_machine.specs.Transfers.{Delays}

pub record Placed : Type 0 where
  pub cycle : ℕ
  pub standing : Standing
  pub copies : Copies
  pub history : History

-- the stages of an outer body, by place
abbrev pub no_node : PlainNode
no_node = inner [] [] [] None

abbrev pub stage_at : PlainStages → (stage : ℕ) → PlainNode
stage_at no_stage s = no_node
stage_at (more_stage first last comb node rest) zero = node
stage_at (more_stage first last comb node rest) (suc s) = stage_at rest s

-- and the numbers of its node, and of its first operation, by those of the first stage
abbrev pub node_at : PlainStages → (node stage : ℕ) → ℕ
node_at no_stage j s = j
node_at (more_stage first last comb node rest) j zero = j
node_at (more_stage first last comb node rest) j (suc s) = node_at rest (j + node_count node) s

abbrev pub number_at : PlainStages → (number stage : ℕ) → ℕ
number_at no_stage n s = n
number_at (more_stage first last comb node rest) n zero = n
number_at (more_stage first last comb node rest) n (suc s) = number_at rest (n + number_count node) s

-- what was done in a stage of a group, where it has a lane
abbrev pub stage_history : PlainStages → Runs → (stage : ℕ) → Option History
stage_history (more_stage first last comb node rest) (more_run h hs) zero = Some h
stage_history (more_stage first last comb node rest) (more_run h hs) (suc s) = stage_history rest hs s
stage_history (more_stage first last comb node rest) (masked_run hs) (suc s) = stage_history rest hs s
stage_history _ _ s = None

module _ (core : PlainCore) (plan : PlainPlan) (delays : Delays) where
  -- a run as the timeline tells it, and what happens in it, by cycles of the whole
  abbrev pub told : PlainNode → (node n : ℕ) → Placed → Run Stamped
  told node k n r = timed core plan delays node k n r.standing r.copies r.history

  abbrev pub events_of : PlainNode → (node n : ℕ) → Placed → List Stamped
  events_of node k n r = later r.cycle (told node k n r).events

  -- the cycle in which the next part may be started
  abbrev pub over_at : PlainNode → (node n : ℕ) → Placed → ℕ
  over_at node k n r = r.cycle + (told node k n r).took

  -- runs one after the other, from a cycle on and over by another one
  abbrev pub AreWithin : PlainNode → (node n from until : ℕ) → List Placed → Type 0
  AreWithin node k n from until [] = from ≤ until
  AreWithin node k n from until (r ∷ runs) = (from ≤ r.cycle) × AreWithin node k n (over_at node k n r) until runs

  -- how long a start, a test or a next takes
  abbrev pub list_took : List PlainOp → ℕ
  list_took ops = 2 + latency_of_all core ops

  -- the side of a branch, in the runs that take it
  module _ (test : List PlainOp) (k : ℕ) where
    abbrev pub taken : Placed → History → Placed
    taken r h = record { cycle = r.cycle + (1 + list_took test); standing = inside_at r.standing k (in_turn 0) []; copies = r.copies; history = h }

    abbrev pub side_in : (side : Bool) → Placed → History → List Placed
    side_in true r (branch_ran es true h) = taken r h ∷ []
    side_in false r (branch_ran es false h) = taken r h ∷ []
    side_in _ r _ = []

    abbrev pub side_runs : (side : Bool) → List Placed → List Placed
    side_runs side runs = flat_map (λ r. side_in side r r.history) runs

  -- the body of an FSM, turn after turn, where a test begins in a cycle
  module _ (start test next : List PlainOp) (body : PlainNode) (k n : ℕ) where
    abbrev pub turn_of : Placed → (turn cycle : ℕ) → History → Placed
    turn_of r t c h = record { cycle = c + list_took test; standing = inside_at r.standing k (in_turn t) []; copies = r.copies; history = h }

    abbrev pub turns_from : Placed → (turn cycle : ℕ) → Turns → List Placed
    turns_from r t c no_turn = []
    turns_from r t c (more_turn es h ns rest) =
        turn_of r t c h ∷ turns_from r (suc t) (over_at body (suc k) (n + (length start + length test)) (turn_of r t c h) + list_took next) rest

    abbrev pub body_in : Placed → History → List Placed
    body_in r (fsm_ran first turns last) = turns_from r 0 (r.cycle + (1 + list_took start)) turns
    body_in r _ = []

    abbrev pub body_runs : List Placed → List Placed
    body_runs runs = flat_map (λ r. body_in r r.history) runs

  -- a stage of an outer body, in the groups in which it has a lane
  module _ (counters : List PlainCounter) (owned : List ℕ) (stages : PlainStages) (k n s : ℕ) where
    abbrev pub table : Placed → List (List ℤ) → Groups → List (List (Run Stamped))
    table r values groups = group_runs core plan delays stages k (n + counters_size counters) 0 r.standing owned r.copies values groups

    abbrev pub stage_of : Placed → (start group : ℕ) → List ℤ → Option History → List Placed
    stage_of r c g v None = []
    stage_of r c g v (Some h) = record { cycle = r.cycle + c; standing = inside_at r.standing k (in_group_of g s) v; copies = in_copies core plan delays owned g r.copies; history = h } ∷ []

    -- by when it begins in each group
    abbrev pub groups_from : Placed → (begins : (group : ℕ) → ℕ) → (group : ℕ) → List (List ℤ) → Groups → List Placed
    groups_from r begins g (v ∷ values) (more_group row rest) = stage_of r (begins g) g v (stage_history stages row s) ++ groups_from r begins (suc g) values rest
    groups_from r begins g _ _ = []

    abbrev pub stage_in : Placed → History → List Placed
    stage_in r (outer_ran bs counts groups) =
        groups_from r (λ g. starts (slots_of (node_plan plan k)) (took_at (table r (group_values (loops_of in_lanes counters bs)) groups)) g s) 0 (group_values (loops_of in_lanes counters bs)) groups
    stage_in r _ = []

    abbrev pub stage_runs : List Placed → List Placed
    stage_runs runs = flat_map (λ r. stage_in r r.history) runs
