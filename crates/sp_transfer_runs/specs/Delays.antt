-- The delays that the transfers of a run take, by what their channels took: where the runs of a transfer stand in a run of the whole core
-- hangs on the history alone, so delays can be chosen before the timeline is told.
use Rattle.std.specs.Prelude.{◌≡◌, ℕ, suc, ◌+◌, ◌≤◌, ◌==◌, nat_lt, Bool, true, false, if◌then◌else◌, ℤ, List, [], ◌∷◌, ◌++◌, map, flat_map, length, Option, Some, None}
use Rattle.sp_core.specs.Events.{When, in_group_of, in_turn, At}
use Rattle.sp_core.specs.History.{History, Groups, Turns, outer_ran, fsm_ran, branch_ran, more_group, no_turn, more_turn}
use Rattle.sp_core.specs.Numbering.{counters_size, node_count, number_count}
use Rattle.sp_core.specs.PlainCore.{PlainCounter, PlainNode, PlainStages, outer, fsm, branch, load, store, no_stage, more_stage, PlainCore}
use Rattle.sp_core.specs.Scope.{in_lanes, loops_of, group_values}
use Rattle.sp_plan.specs.PlainPlan.{PlainPlan}
use Rattle.sp_machine.specs.Transfers.{Delays}
use Rattle.sp_node_runs.specs.Runs.{Placed, stage_history, side_runs, body_runs, stage_runs}
use Rattle.sp_transfer_runs.specs.Channels.{AreTaken}
use Rattle.sp_transfer_runs.specs.Choice.{Moved, chosen}
use Rattle.sp_transfer_runs.specs.Runs.{words_in}

-- a run of a part, by where it stands and what was done in it
pub record Went : Type 0 where
  pub path : List At
  pub history : History

abbrev pub went : List At → History → Went
went path h = record { path = path; history = h }

abbrev pub went_in : Placed → Went
went_in r = went r.standing.path r.history

-- inside of a controller
abbrev pub inside : List At → (node : ℕ) → When → List At
inside path k when = path ++ record { node = k; when = when } ∷ []

-- the side of a branch that was taken
abbrev pub side_went : (node : ℕ) (side : Bool) → List At → History → List Went
side_went k true path (branch_ran es true h) = went (inside path k (in_turn 0)) h ∷ []
side_went k false path (branch_ran es false h) = went (inside path k (in_turn 0)) h ∷ []
side_went k side path _ = []

-- the body of an FSM, turn after turn
abbrev pub turns_went : (node turn : ℕ) → List At → Turns → List Went
turns_went k t path no_turn = []
turns_went k t path (more_turn es h ns rest) = went (inside path k (in_turn t)) h ∷ turns_went k (suc t) path rest

abbrev pub body_went : (node : ℕ) → List At → History → List Went
body_went k path (fsm_ran first turns last) = turns_went k 0 path turns
body_went k path _ = []

-- a stage of a loop, in the groups in which it has a lane
module _ (stages : PlainStages) (k s : ℕ) where
  abbrev pub lane_went : List At → (group : ℕ) → Option History → List Went
  lane_went path g None = []
  lane_went path g (Some h) = went (inside path k (in_group_of g s)) h ∷ []

  abbrev pub groups_went : List At → (group : ℕ) → List (List ℤ) → Groups → List Went
  groups_went path g (v ∷ values) (more_group row rest) = lane_went path g (stage_history stages row s) ++ groups_went path (suc g) values rest
  groups_went path g _ _ = []

  abbrev pub stage_went : List PlainCounter → List At → History → List Went
  stage_went counters path (outer_ran bs counts groups) = groups_went path 0 (group_values (loops_of in_lanes counters bs)) groups
  stage_went counters path _ = []

-- each run of a part in these runs of a node
abbrev pub each_went : (List At → History → List Went) → List Went → List Went
each_went part ws = flat_map (λ (w : Went). part w.path w.history) ws

-- The runs of the node that has a number, in these runs of a node with another one.
abbrev mutual
  pub went_at : PlainNode → (node wanted : ℕ) → List Went → List Went
  went_at (outer counters style owned stages) j k ws = if j == k then ws else went_beside counters stages stages j 0 (suc j) k ws
  went_at (fsm start state test body next) j k ws = if j == k then ws else went_at body (suc j) k (each_went (body_went j) ws)
  went_at (branch test first second) j k ws =
      if j == k then ws
      else (if nat_lt k (suc j + node_count first) then went_at first (suc j) k (each_went (side_went j true) ws) else went_at second (suc j + node_count first) k (each_went (side_went j false) ws))
  went_at _ j k ws = if j == k then ws else []

  pub went_beside : List PlainCounter → (all stages : PlainStages) → (node stage next wanted : ℕ) → List Went → List Went
  went_beside counters all no_stage j s i k ws = []
  went_beside counters all (more_stage first last comb node rest) j s i k ws =
      if nat_lt k (i + node_count node) then went_at node i k (each_went (stage_went all j s counters) ws) else went_beside counters all rest j (suc s) (i + node_count node) k ws

-- with how many words each of them moved
abbrev pub moved_by : Went → Moved
moved_by w = record { path = w.path; words = length (words_in w.history) }

abbrev pub whole_went : History → List Went
whole_went h = went [] h ∷ []

-- the delays of a run, by what the channel of each transfer took each time that it asked
abbrev pub delays_of : PlainCore → History → (took : (node ask : ℕ) → ℕ) → Delays
delays_of core h took k path ask = chosen (took k) 0 (map moved_by (went_at core.root 0 k (whole_went h))) path ask

-- each asking of each transfer of a node waits for what its channel took
module _ (core : PlainCore) (plan : PlainPlan) (delays : Delays) (took : (node ask : ℕ) → ℕ) where
  abbrev mutual
    pub AllTaken : PlainNode → (node n : ℕ) → List Placed → Type 0
    AllTaken (outer counters style owned stages) k n runs = StagesTaken stages (suc k) (n + counters_size counters) 0 (λ i. stage_runs core plan delays counters owned stages k n i runs)
    AllTaken (fsm start state test body next) k n runs = AllTaken body (suc k) (n + (length start + length test)) (body_runs core plan delays start test next body k n runs)
    AllTaken (branch test first second) k n runs =
        AllTaken first (suc k) (n + length test) (side_runs core plan delays test k true runs) × AllTaken second (suc k + node_count first) (n + (length test + number_count first)) (side_runs core plan delays test k false runs)
    AllTaken (load r m spans) k n runs = AreTaken delays k (took k) 0 runs
    AllTaken (store r m spans) k n runs = AreTaken delays k (took k) 0 runs
    AllTaken _ k n runs = Unit {0}

    pub StagesTaken : PlainStages → (node n stage : ℕ) → (runs : (stage : ℕ) → List Placed) → Type 0
    StagesTaken no_stage j n i runs = Unit {0}
    StagesTaken (more_stage first last comb node rest) j n i runs = AllTaken node j n (runs i) × StagesTaken rest (j + node_count node) (n + number_count node) (suc i) runs

-- With the delays that are chosen by what the channels took, so it is in a run of the whole core, by any plan; and no delay is greater
-- than all that the channels took.
pub record DelaysAreThere (core : PlainCore) (h : History) (took : (node ask : ℕ) → ℕ) : Type 0 where
  pub taken : (plan : PlainPlan) (n : ℕ) (r : Placed) → went_in r ≡ went [] h → AllTaken core plan (delays_of core h took) took core.root 0 n (r ∷ [])
  pub small : (d : ℕ) → ((k ask : ℕ) → took k ask ≤ d) → (k : ℕ) (path : List At) (ask : ℕ) → delays_of core h took k path ask ≤ d
