-- How many copies of a memory there are where lanes stand one after the other.
use Rattle.std.specs.Prelude.{◌≡◌, ℕ, ◌+◌, ◌*◌, ◌==◌, Bool, true, false, List, [], ◌∷◌}
use Rattle.sp_core.specs.Around.{lanes_of}
use Rattle.sp_core.specs.Invariant.{owned_in}
use Rattle.sp_core.specs.PlainCore.{PlainNode, PlainStages, inner, outer, fsm, branch, no_stage, more_stage}

abbrev pub one_if : Bool → ℕ
one_if true = 1
one_if false = 0

-- how often a number stands in a list
abbrev pub occurrences : ℕ → List ℕ → ℕ
occurrences m [] = 0
occurrences m (x ∷ rest) = one_if (x == m) + occurrences m rest

-- how many copies of a memory a part of a core has: for each of its owners there one for each lane in which that one stands
abbrev mutual
  pub copies_in : PlainNode → ℕ → ℕ
  copies_in (inner counters owned ops comb) m = lanes_of counters * occurrences m owned
  copies_in (outer counters style owned stages) m = lanes_of counters * (occurrences m owned + copies_in_stages stages m)
  copies_in (fsm start state test body next) m = occurrences m (state ∷ []) + copies_in body m
  copies_in (branch test first second) m = copies_in first m + copies_in second m
  copies_in _ m = 0

  pub copies_in_stages : PlainStages → ℕ → ℕ
  copies_in_stages no_stage m = 0
  copies_in_stages (more_stage first last comb node rest) m = copies_in node m + copies_in_stages rest m

-- no combination owns a memory: it stands once, and not in each lane
abbrev mutual
  pub OwnsInLanes : PlainNode → Type 0
  OwnsInLanes (outer counters style owned stages) = OwnInLanes stages
  OwnsInLanes (fsm start state test body next) = OwnsInLanes body
  OwnsInLanes (branch test first second) = OwnsInLanes first × OwnsInLanes second
  OwnsInLanes _ = Unit {0}

  pub OwnInLanes : PlainStages → Type 0
  OwnInLanes no_stage = Unit {0}
  OwnInLanes (more_stage first last true node rest) = (owned_in node ≡ []) × OwnsInLanes node × OwnInLanes rest
  OwnInLanes (more_stage first last false node rest) = OwnsInLanes node × OwnInLanes rest
