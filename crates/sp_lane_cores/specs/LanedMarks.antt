-- Where the lanes and the combinations of a core stand.
use Rattle.std.specs.Prelude.{◌≡◌, ◌⊎◌, ℕ, ◌==◌, Bool, true, false, not, ◌&&◌, List, [], ◌∷◌, ◌++◌, length, Option, Some, None}
use Rattle.sp_words.specs.declared.types.Ty.{Ty}
use Rattle.sp_tree.specs.declared.statement.Comb.{Comb}
use Rattle.sp_tree.specs.PlainProgram.{PlainMem}
use Rattle.sp_core.specs.Footprint.{ListNames, NodeNames}
use Rattle.sp_core.specs.PlainCore.{PlainOp, PlainCounter, PlainNode, PlainStages, inner, outer, fsm, branch, no_stage, more_stage, PlainCore}
use Rattle.sp_sugar.specs.Combination.{fold_ops, reduce_ops, element_ops}

-- of the counters of a controller only the last one may have several lanes
abbrev pub LanesAtLast : List PlainCounter → Type 0
LanesAtLast [] = Unit {0}
LanesAtLast (c ∷ []) = Unit {0}
LanesAtLast (c ∷ next ∷ rest) = (c.par ≡ 1) × LanesAtLast (next ∷ rest)

-- the three ways in which a word at a place is combined into an accumulator: that of a fold, that of a reduction, and that of an
-- element of a memory, by the program's memories, the element's counters and its dimensions
pub data Combination : Type 0 where
  folded : (word acc : ℕ) → Ty → Comb → Combination
  reduced : (word acc begun : ℕ) → Ty → Comb → Combination
  element : List PlainMem → (word counter : ℕ) → (dims : List ℕ) → (acc begun : ℕ) → Ty → Comb → Combination

-- its operations, from a place on
abbrev pub combination_ops : (at : ℕ) → Combination → List PlainOp
combination_ops at (folded word acc ty comb) = fold_ops at word acc ty comb
combination_ops at (reduced word acc begun ty comb) = reduce_ops at word acc begun ty comb
combination_ops at (element mems word c dims acc begun ty comb) = element_ops mems at word c dims acc begun ty comb

-- the memories that aren't its own: neither its accumulator nor what tells whether that holds a word of this run
abbrev pub is_other : Combination → ℕ → Bool
is_other (folded word acc ty comb) m = not (m == acc)
is_other (reduced word acc begun ty comb) m = not (m == acc) && not (m == begun)
is_other (element mems word c dims acc begun ty comb) m = not (m == acc) && not (m == begun)

module _ (core : PlainCore) where
  -- from a place on a list is a combination, of which it names nothing before
  pub record IsCombined (c : Combination) (ops : List PlainOp) (at : ℕ) : Type 0 where
    pub before : List PlainOp
    pub place : length before ≡ at
    pub is : ops ≡ before ++ combination_ops at c
    pub apart : ListNames core (is_other c) before

  -- so it is where a list has a mark
  abbrev pub IsMarked : List PlainOp → Option ℕ → Type 0
  IsMarked ops None = Unit {0}
  IsMarked ops (Some at) = (c : Combination) × IsCombined c ops at

  -- stages of which none is a combination
  abbrev pub NoneCombines : PlainStages → Type 0
  NoneCombines no_stage = Unit {0}
  NoneCombines (more_stage first last true node rest) = ⊥
  NoneCombines (more_stage first last false node rest) = NoneCombines rest

  -- stages of which the last one is a combination, and no other names what is its own
  abbrev pub LastCombines : (is : ℕ → Bool) → PlainStages → Type 0
  LastCombines is (more_stage first last false node rest) = NodeNames core is node × LastCombines is rest
  LastCombines is (more_stage first last true (inner counters owned ops (Some at)) no_stage) = LanesAtLast counters × ((c : Combination) × (is_other c ≡ is) × IsCombined c ops at)
  LastCombines is stages = ⊥

  abbrev mutual
    pub IsLaned : PlainNode → Type 0
    IsLaned (inner counters owned ops comb) = LanesAtLast counters × IsMarked ops comb
    IsLaned (outer counters style owned stages) = LanesAtLast counters × (NoneCombines stages ⊎ ((is : ℕ → Bool) × LastCombines is stages)) × AreLaned stages
    IsLaned (fsm start state test body next) = IsLaned body
    IsLaned (branch test first second) = IsLaned first × IsLaned second
    IsLaned node = Unit {0}

    pub AreLaned : PlainStages → Type 0
    AreLaned no_stage = Unit {0}
    AreLaned (more_stage first last true node rest) = AreLaned rest
    AreLaned (more_stage first last false node rest) = IsLaned node × AreLaned rest
