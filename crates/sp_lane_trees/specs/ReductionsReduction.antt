-- Stages of which the last one combines a word, and the others.
use Rattle.std.specs.Prelude.{◌≡◌, ℕ, Bool, true, false, ◌||◌, not, List, [], ◌∷◌, Some}
use Rattle.sp_core.specs.Declarations.{is_among}
use Rattle.sp_core.specs.Footprint.{ListNames, NodeNames}
use Rattle.sp_core.specs.PlainCore.{PlainOp, PlainNode, PlainStages, inner, no_stage, more_stage, PlainCore}
use Rattle.sp_lanes.specs.Shared.{changes_memory}
use Rattle.sp_lane_cores.specs.LanedMarks.{Combination, is_other}
use Rattle.sp_lane_cores.specs.EndingsEnding.{IsOneWord, EndsIn}
use Rattle.sp_lane_trees.specs.ReductionsChanges.{NodeChanges}

-- no operation changes a memory
abbrev pub AreStill : List PlainOp → Type 0
AreStill [] = Unit {0}
AreStill (op ∷ ops) = (changes_memory op.kind ≡ false) × AreStill ops

module _ (core : PlainCore) where
  -- an inner body without counters that combines one word, in a loop that owns these memories, and whose other stages keep those
  -- that pass a test. What it does before changes nothing, and names only what the loop owns or keeps; what isn't its own are the
  -- memories that pass the other test
  pub record IsReduction (owned : List ℕ) (is kept : ℕ → Bool) (node : PlainNode) : Type 0 where
    pub ops : List PlainOp
    pub at : ℕ
    pub combination : Combination
    pub node_is : node ≡ inner [] [] ops (Some at)
    pub one_word : IsOneWord combination
    pub others : is_other combination ≡ is
    pub ends : EndsIn core owned ops at combination
    pub still : AreStill ends.combined.before
    pub own : ListNames core (λ m. is_among m owned || kept m) ends.combined.before

  -- the last stage combines a word; no other stage names what is the combination's own, or changes what is kept
  abbrev pub LastCombinesWord : (owned : List ℕ) → (is kept : ℕ → Bool) → PlainStages → Type 0
  LastCombinesWord owned is kept (more_stage first last false node rest) = NodeNames core is node × NodeChanges core (λ m. not (kept m)) node × LastCombinesWord owned is kept rest
  LastCombinesWord owned is kept (more_stage first last true node no_stage) = IsReduction owned is kept node
  LastCombinesWord owned is kept stages = ⊥

  -- so for some memories that are kept
  abbrev pub LastReduces : (owned : List ℕ) → (is : ℕ → Bool) → PlainStages → Type 0
  LastReduces owned is stages = (kept : ℕ → Bool) × LastCombinesWord owned is kept stages
