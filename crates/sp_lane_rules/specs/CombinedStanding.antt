-- Where combinations stand in a core.
use Rattle.std.specs.Prelude.{◌≡◌, ◌⊎◌, ℕ, false, List, [], ◌∷◌, ◌++◌, map, Option, Some, None}
use Rattle.sp_core.specs.Around.{lanes_of}
use Rattle.sp_core.specs.Declarations.{is_among}
use Rattle.sp_core.specs.PlainCore.{PlainCounter, PlainNode, PlainStages, inner, outer, fsm, branch, no_stage, more_stage}
use Rattle.sp_lanes.specs.Unrolled.{combination_of}
use Rattle.sp_lane_rules.specs.CombinedMeetings.{IsMet}

abbrev pub numbers_of : List PlainCounter → List ℕ
numbers_of counters = map (λ c. c.number) counters

-- no counter has a number among these
abbrev pub AreApart : (numbers : List ℕ) → List PlainCounter → Type 0
AreApart numbers [] = Unit {0}
AreApart numbers (c ∷ counters) = (is_among c.number numbers ≡ false) × AreApart numbers counters

-- a stage that combines after all lanes is an inner body that owns nothing, and its counters have other numbers than these
abbrev pub MayFollow : (numbers : List ℕ) → Option PlainNode → Type 0
MayFollow numbers None = Unit {0}
MayFollow numbers (Some (inner counters owned ops comb)) = AreApart numbers counters × (owned ≡ []) × IsMet ops comb
MayFollow numbers (Some node) = ⊥

-- where a controller of several lanes combines, it is by a meeting; and so in each node of a part, by the numbers of the
-- counters around
abbrev mutual
  pub Combines : (numbers : List ℕ) → PlainNode → Type 0
  Combines numbers (inner counters owned ops comb) = (lanes_of counters ≡ 1) ⊎ IsMet ops comb
  Combines numbers (outer counters style owned stages) =
      ((lanes_of counters ≡ 1) ⊎ MayFollow (numbers_of counters ++ numbers) (combination_of stages)) × Combine (numbers_of counters ++ numbers) stages
  Combines numbers (fsm start state test body next) = Combines numbers body
  Combines numbers (branch test first second) = Combines numbers first × Combines numbers second
  Combines numbers _ = Unit {0}

  pub Combine : (numbers : List ℕ) → PlainStages → Type 0
  Combine numbers no_stage = Unit {0}
  Combine numbers (more_stage first last comb node rest) = Combines numbers node × Combine numbers rest
