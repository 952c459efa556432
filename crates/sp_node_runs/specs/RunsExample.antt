-- Worked runs of parts: when those of three small cores begin, by hand from the cycles of what happens in them. A core begins in
-- cycle 0.
use Rattle.std.specs.Prelude.{ℕ, Bool, List, [], ◌∷◌, map, replicate}
use Rattle.sp_core.specs.Elements.{numbers_below}
use Rattle.sp_core.specs.ExampleForms.{input}
use Rattle.sp_core.specs.ExampleLoops.{counting_down}
use Rattle.sp_core.specs.ExampleTransfers.{copied}
use Rattle.sp_core.specs.Meaning.{Outcome, ended, meaning}
use Rattle.sp_core.specs.PlainCore.{PlainNode, outer, fsm, branch, PlainCore}
use Rattle.sp_core.specs.Scope.{in_lanes}
use Rattle.sp_plan.specs.PlainPlan.{PlainPlan}
use Rattle.sp_machine.specs.Examples.{always, chosen, chosen_plan, copied_plan, counting_plan}
use Rattle.sp_node_runs.specs.Runs.{Placed, side_runs, body_runs, stage_at, stage_runs}

abbrev pub whole_run : Outcome → List Placed
whole_run (ended outs drams h) = record { cycle = 0; standing = record { path = []; counters = [] }; copies = λ m. 0; history = h } ∷ []
whole_run _ = []

abbrev pub cycles : List Placed → List ℕ
cycles runs = map (λ (r : Placed). r.cycle) runs

module _ (core : PlainCore) (plan : PlainPlan) where
  -- runs of a stage, of the body of an FSM, and of a side of a branch
  abbrev pub stage_of : PlainNode → (node n stage : ℕ) → List Placed → List Placed
  stage_of (outer counters style owned stages) k n s runs = stage_runs core plan (always 0) counters owned stages k n s runs
  stage_of node k n s runs = []

  abbrev pub body_of : PlainNode → (node n : ℕ) → List Placed → List Placed
  body_of (fsm start state test body next) k n runs = body_runs core plan (always 0) start test next body k n runs
  body_of node k n runs = []

  abbrev pub side_of : PlainNode → (node : ℕ) → (side : Bool) → List Placed → List Placed
  side_of (branch test first second) k side runs = side_runs core plan (always 0) test k side runs
  side_of node k side runs = []

abbrev pub node_in : PlainNode → (stage : ℕ) → PlainNode
node_in (outer counters style owned stages) s = stage_at stages s
node_in node s = node

-- two groups of four words, loaded in slot 0 and stored in slot 1
abbrev pub copying : PlainCore
copying = copied 4 2

abbrev pub copying_plan : PlainPlan
copying_plan = copied_plan (0 ∷ 1 ∷ []) 2

abbrev pub copying_loop : List Placed
copying_loop = stage_of copying copying_plan copying.root 0 0 0 (whole_run (meaning in_lanes 0 copying (input [] (numbers_below 4 ∷ replicate 4 9 ∷ []))))

abbrev pub branches : (argument : ℕ) → List Placed
branches x = stage_of chosen chosen_plan chosen.root 0 0 0 (whole_run (meaning in_lanes 0 chosen (input (x ∷ []) [])))

abbrev pub machines : List Placed
machines = stage_of counting_down counting_plan counting_down.root 0 0 0 (whole_run (meaning in_lanes 1 counting_down (input (1 ∷ []) [])))
