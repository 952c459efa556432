-- Bodies that end in a combination, of which they name and own nothing before.
use Rattle.std.specs.Prelude.{◌≡◌, ◌⊎◌, ◌<◌, ℕ, Bool, true, false, List, drop, Option, Some, None}
use Rattle.sp_core.specs.Around.{lanes_of}
use Rattle.sp_core.specs.Declarations.{is_stream, is_among}
use Rattle.sp_core.specs.Footprint.{NodeNames}
use Rattle.sp_core.specs.PlainCore.{PlainOp, PlainNode, PlainStages, inner, outer, fsm, branch, no_stage, more_stage, PlainCore}
use Rattle.sp_lanes.specs.Combined.{meeting}
use Rattle.sp_lane_cores.specs.LanedMarks.{LanesAtLast, Combination, folded, reduced, element, is_other, IsCombined, NoneCombines}

-- a combination of one word, and not of the elements of a memory
abbrev pub IsOneWord : Combination → Type 0
IsOneWord (folded word acc ty comb) = Unit {0}
IsOneWord (reduced word acc begun ty comb) = Unit {0}
IsOneWord (element mems word c dims acc begun ty comb) = ⊥

-- an accumulator, and what tells whether it has begun, are two memories
abbrev pub HasTwo : Combination → Type 0
HasTwo (folded word acc ty comb) = Unit {0}
HasTwo (reduced word acc begun ty comb) = acc ≡ begun → ⊥
HasTwo (element mems word c dims acc begun ty comb) = acc ≡ begun → ⊥

module _ (core : PlainCore) where
  -- a list ends in a combination from a place on: it takes a word from before that place, and its memories aren't among those that
  -- are owned
  pub record EndsIn (owned : List ℕ) (ops : List PlainOp) (at : ℕ) (c : Combination) : Type 0 where
    pub combined : IsCombined core c ops at
    pub two : HasTwo c
    pub earlier : (meeting (drop at ops)).word < at
    pub others : (m : ℕ) → is_among m owned ≡ true → is_other c m ≡ true

  -- so it does where it has a mark
  abbrev pub EndsAt : (owned : List ℕ) → List PlainOp → Option ℕ → Type 0
  EndsAt owned ops None = Unit {0}
  EndsAt owned ops (Some at) = (c : Combination) × IsOneWord c × EndsIn owned ops at c

  -- stages of which the last one is a combination in one lane, and no other names what is its own, which isn't owned by their body
  abbrev pub LastEnds : (owned : List ℕ) → (is : ℕ → Bool) → PlainStages → Type 0
  LastEnds owned is (more_stage first last false node rest) = NodeNames core is node × LastEnds owned is rest
  LastEnds owned is (more_stage first last true (inner counters own ops (Some at)) no_stage) = LanesAtLast counters × (lanes_of counters ≡ 1) × ((c : Combination) × (is_other c ≡ is) × EndsIn owned ops at c)
  LastEnds owned is stages = ⊥

  -- each body of a node that combines ends in its combination; stages are of the first lane, and a stream block has no other
  abbrev mutual
    pub IsEnded : PlainNode → Type 0
    IsEnded (inner counters owned ops comb) = EndsAt owned ops comb
    IsEnded (outer counters style owned stages) = (NoneCombines core stages ⊎ ((is : ℕ → Bool) × LastEnds owned is stages)) × AreEnded stages × (is_stream style ≡ true → lanes_of counters ≡ 1)
    IsEnded (fsm start state test body next) = IsEnded body
    IsEnded (branch test first second) = IsEnded first × IsEnded second
    IsEnded node = Unit {0}

    pub AreEnded : PlainStages → Type 0
    AreEnded no_stage = Unit {0}
    AreEnded (more_stage first last true node rest) = (first ≡ 0) × (last ≡ 0) × AreEnded rest
    AreEnded (more_stage first last false node rest) = (first ≡ 0) × (last ≡ 0) × IsEnded node × AreEnded rest
