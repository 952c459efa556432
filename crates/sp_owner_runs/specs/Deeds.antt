-- Which parts of a tree do what to the memories that they own: loops in beats make theirs fresh, and FSMs keep their states.
use Rattle.std.specs.Prelude.{◌≡◌, ℕ, true, List, [], ◌∷◌, ◌++◌}
use Rattle.sp_core.specs.Declarations.{is_among}
use Rattle.sp_core.specs.Events.{Standing, Moment, renews, keeps, moments}
use Rattle.sp_core.specs.History.{History}
use Rattle.sp_core.specs.PlainCore.{PlainNode, PlainStages, outer, fsm, branch, no_stage, more_stage, PlainCore}
use Rattle.sp_core.specs.Scope.{in_lanes}
use Rattle.sp_time.specs.Lists.{Each}
use Rattle.sp_machine.specs.InOrder.{is_done}
use Rattle.sp_overlap.specs.Whole.{IsTimed}

-- the memories of the loops of a part
abbrev mutual
  pub renewed_in : PlainNode → List ℕ
  renewed_in (outer counters style owned stages) = owned ++ renewed_in_stages stages
  renewed_in (fsm start state test body next) = renewed_in body
  renewed_in (branch test first second) = renewed_in first ++ renewed_in second
  renewed_in _ = []

  pub renewed_in_stages : PlainStages → List ℕ
  renewed_in_stages no_stage = []
  renewed_in_stages (more_stage first last comb node rest) = renewed_in node ++ renewed_in_stages rest

-- the states of its FSMs
abbrev mutual
  pub kept_in : PlainNode → List ℕ
  kept_in (outer counters style owned stages) = kept_in_stages stages
  kept_in (fsm start state test body next) = state ∷ kept_in body
  kept_in (branch test first second) = kept_in first ++ kept_in second
  kept_in _ = []

  pub kept_in_stages : PlainStages → List ℕ
  kept_in_stages no_stage = []
  kept_in_stages (more_stage first last comb node rest) = kept_in node ++ kept_in_stages rest

-- whether anything is done where a memory is made fresh: one that has no reset holds what it held until it is written
abbrev pub CountsFresh : PlainCore → (mem : ℕ) → Type 0
CountsFresh core m = is_done core (renews m) ≡ true

-- what an owner does is done to one of these, where it counts
abbrev pub IsDeed : PlainCore → (fresh states : List ℕ) → Moment → Type 0
IsDeed core fresh states (renews m) = CountsFresh core m → is_among m fresh ≡ true
IsDeed core fresh states (keeps m w) = is_among m states ≡ true
IsDeed core fresh states _ = Unit {0}

-- so it is in each run of a node
abbrev pub OwnersDo : PlainCore → PlainNode → Type 0
OwnersDo core node = IsTimed node → (k n : ℕ) (st : Standing) (h : History) → Each (IsDeed core (renewed_in node) (kept_in node)) (moments core in_lanes node k n st h)
