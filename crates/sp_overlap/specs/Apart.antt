-- What the stages of an outer body name and own, and how far apart they are kept.
use Rattle.std.specs.Prelude.{◌≡◌, ℕ, ◌+◌, ◌<◌, ◌≤◌, true, false, List, [], ◌∷◌, length, None, slice_index_or}
use Rattle.sp_core.specs.Declarations.{is_among}
use Rattle.sp_core.specs.Invariant.{owned_in}
use Rattle.sp_core.specs.PlainCore.{PlainNode, PlainStages, inner, no_stage, more_stage, PlainCore}
use Rattle.sp_plan.specs.Named.{names_at, uses}
use Rattle.sp_plan.specs.Slots.{StageRun, stage_of}

-- these names are those at the numbers from one on
abbrev pub StandAt : PlainCore → (number : ℕ) → List (List ℕ) → Type 0
StandAt core n xs = (i : ℕ) → i < length xs → names_at core (n + i) ≡ slice_index_or xs i []

-- the stages of an outer body, by their place
abbrev pub nodes_of : PlainStages → List PlainNode
nodes_of no_stage = []
nodes_of (more_stage first last comb node rest) = node ∷ nodes_of rest

abbrev pub no_node : PlainNode
no_node = inner [] [] [] None

abbrev pub node_at : PlainStages → ℕ → PlainNode
node_at stages p = slice_index_or (nodes_of stages) p no_node

-- what a stage owns within is its own: another stage neither owns nor names it, and the loop doesn't own it
pub record ArePrivate (core : PlainCore) (owned : List ℕ) (stages : PlainStages) : Type 0 where
  pub unnamed : (p q m : ℕ) → (p ≡ q → ⊥) → is_among m (owned_in (node_at stages p)) ≡ true → uses core m (node_at stages q) ≡ false
  pub unowned : (p q m : ℕ) → (p ≡ q → ⊥) → is_among m (owned_in (node_at stages p)) ≡ true → is_among m (owned_in (node_at stages q)) ≡ false
  pub within : (p m : ℕ) → is_among m (owned_in (node_at stages p)) ≡ true → is_among m owned ≡ false

-- of stages that use a memory of the loop none is before an earlier one in its lane: they are of one lane, or the later one is
-- of all
abbrev pub AreOfOneLane : PlainCore → (owned : List ℕ) → PlainStages → List StageRun → Type 0
AreOfOneLane core owned stages runs =
    (p q m : ℕ) → p < q → q < length runs → is_among m owned ≡ true → uses core m (node_at stages p) ≡ true → uses core m (node_at stages q) ≡ true → stage_of runs p ≤ stage_of runs q
