-- The controllers around an access, as the path of an event in a run goes along them.
use Rattle.std.specs.Prelude.{◌≡◌, ℕ, suc, ◌+◌, true, false, List, [], ◌∷◌, ◌++◌}
use Rattle.std.specs.List.{All, Contains}
use Rattle.sp_core.specs.Declarations.{is_stream}
use Rattle.sp_core.specs.Events.{At, When, before, in_turn, Standing, Moment, touches, slices, renews, keeps, core_moments}
use Rattle.sp_core.specs.History.{History, branch_ran}
use Rattle.sp_core.specs.Meeting.{are_at_once, Outer, outers}
use Rattle.sp_core.specs.Numbering.{node_count}
use Rattle.sp_core.specs.PlainCore.{PlainCounter, PlainNode, PlainStages, inner, outer, fsm, branch, more_stage, PlainMem, PlainCore}
use Rattle.sp_core.specs.Scope.{Reading}
use Rattle.sp_patterns.specs.declared.place.CounterPlace.{CounterPlace}
use Rattle.sp_patterns.specs.Ranges.{places_in}
use Rattle.sp_meets.specs.Around.{PlainLevel, in_part, changed_in, inner_level, outer_level, once}
use Rattle.sp_meets.specs.Spots.{PlainSpot, spots}
use Rattle.sp_along.specs.MetTraces.{stage_in}
use Rattle.sp_along.specs.AlongControllers.{Ran, ran_in}

abbrev pub counters_at : PlainNode → List PlainCounter
counters_at (inner counters owned ops comb) = counters
counters_at (outer counters style owned stages) = counters
counters_at node = []

-- a controller as it counts for meets
abbrev pub level_of : List PlainMem → List CounterPlace → PlainNode → PlainLevel
level_of mems places (inner counters owned ops comb) = inner_level mems places counters (changed_in (inner counters owned ops comb))
level_of mems places (outer counters style owned stages) = outer_level mems places counters style owned (changed_in (outer counters style owned stages))
level_of mems places node = once (changed_in node)

-- the part of its body in which a path goes on, and the number of the controller that stands there, by its own
abbrev pub part_in : PlainNode → History → When → ℕ
part_in (outer counters style owned stages) h w = stage_in w
part_in (fsm start state test body next) h w = 1
part_in (branch test first second) (branch_ran es true h) w = 1
part_in (branch test first second) h w = 2
part_in node h w = 0

abbrev pub nodes_before : PlainStages → (stage : ℕ) → ℕ
nodes_before (more_stage first last comb node rest) (suc s) = node_count node + nodes_before rest s
nodes_before stages s = 0

abbrev pub next_in : PlainNode → History → (number part : ℕ) → ℕ
next_in (outer counters style owned stages) h k s = suc k + nodes_before stages s
next_in (branch test first second) (branch_ran es false h) k s = suc k + node_count first
next_in node h k s = suc k

-- inside of which other controllers stand
abbrev pub HasInside : PlainNode → Type 0
HasInside (outer counters style owned stages) = Unit {0}
HasInside (fsm start state test body next) = Unit {0}
HasInside (branch test first second) = Unit {0}
HasInside node = ⊥

abbrev pub GoesOn : Ran → At → (part : ℕ) → (rest : List At) → Type 0
GoesOn ran a s [] = Unit {0}
GoesOn ran a s (b ∷ p) = HasInside ran.node × (s ≡ part_in ran.node ran.history a.when) × (b.node ≡ next_in ran.node ran.history a.node s)

-- the part of a loop is the stage, and an inner body has one; an FSM and a branch go in turns
abbrev pub IsTurn : When → Type 0
IsTurn (in_turn t) = Unit {0}
IsTurn w = ⊥

abbrev pub IsPart : PlainNode → When → (part : ℕ) → Type 0
IsPart (inner counters owned ops comb) w s = (s ≡ 0) × (stage_in w ≡ 0)
IsPart (outer counters style owned stages) w s = s ≡ stage_in w
IsPart (fsm start state test body next) w s = IsTurn w
IsPart (branch test first second) w s = IsTurn w
IsPart node w s = ⊥

abbrev pub IsOuter : List Outer → (number : ℕ) → PlainNode → Type 0
IsOuter all k (outer counters style owned stages) = Contains all (record { node = k; stream = is_stream style; at_once = are_at_once counters style; owned = owned })
IsOuter all k node = Unit {0}

-- a controller around an access, and the place of a path there; before its groups the path is still outside
pub record IsLevelAt (core : PlainCore) (ran : Ran) (places : List CounterPlace) (a : At) (rest : List At) (l : PlainLevel) : Type 0 where
  pub is : l ≡ in_part l.part (level_of core.mems places ran.node)
  pub later : a.when ≡ before → ⊥
  pub part : IsPart ran.node a.when l.part
  pub on : GoesOn ran a l.part rest
  pub outer : IsOuter (outers 0 core.root) a.node ran.node

abbrev pub IsAlong : PlainCore → (ran : List At → Ran) → List CounterPlace → List PlainLevel → List At → Type 0
IsAlong core ran places [] [] = Unit {0}
IsAlong core ran places [] (a ∷ []) = a.when ≡ before
IsAlong core ran places [] (a ∷ b ∷ p) = ⊥
IsAlong core ran places (l ∷ levels) [] = ⊥
IsAlong core ran places (l ∷ levels) (a ∷ p) =
    IsLevelAt core (ran []) places a p l × IsAlong core (λ q. ran (a ∷ q)) (places ++ places_in (counters_at (ran []).node)) levels p

-- what is done by the operation or the transfer of a number
abbrev pub Named : (ℕ → Standing → Type 0) → Moment → Type 0
Named P (touches e) = P e.number e.standing
Named P (slices s) = P s.number s.standing
Named P (renews m) = Unit {0}
Named P (keeps m w) = Unit {0}

-- it stands among the accesses of the core, whose controllers, after the whole core, are those of its path
pub record HasSpot (core : PlainCore) (h : History) (number : ℕ) (st : Standing) : Type 0 where
  pub spot : PlainSpot
  pub has : Contains (spots core) spot
  pub is_number : spot.number ≡ number
  pub levels : List PlainLevel
  pub path : spot.path ≡ once (changed_in core.root) ∷ levels
  pub along : IsAlong core (ran_in core.root h) [] levels st.path

-- whatever was done
abbrev pub EventsHaveSpots : PlainCore → Type 0
EventsHaveSpots core = (reading : Reading) (h : History) → All (Named (HasSpot core h)) (core_moments core reading h)
