-- Nodes in which a controller with stages and several lanes combines a word or the elements of a memory, if it combines.
use Rattle.std.specs.Prelude.{◌≡◌, ◌⊎◌, ℕ, Bool, true, false}
use Rattle.sp_core.specs.Around.{lanes_of}
use Rattle.sp_core.specs.PlainCore.{PlainNode, PlainStages, outer, fsm, branch, no_stage, more_stage, PlainCore}
use Rattle.sp_lane_cores.specs.LanedMarks.{NoneCombines}
use Rattle.sp_lane_trees.specs.ElementsReduction.{LastElements}
use Rattle.sp_lane_trees.specs.ReductionsReduction.{LastReduces}

module _ (core : PlainCore) where
  -- a controller with stages has one lane, or none of its stages combines, or the last one combines a word or elements
  abbrev mutual
    pub CombinesWords : PlainNode → Type 0
    CombinesWords (outer counters style owned stages) =
        ((lanes_of counters ≡ 1) ⊎ (NoneCombines core stages ⊎ ((is : ℕ → Bool) × (LastReduces core owned is stages ⊎ LastElements core owned is stages)))) × CombineWords stages
    CombinesWords (fsm start state test body next) = CombinesWords body
    CombinesWords (branch test first second) = CombinesWords first × CombinesWords second
    CombinesWords node = Unit {0}

    pub CombineWords : PlainStages → Type 0
    CombineWords no_stage = Unit {0}
    CombineWords (more_stage first last true node rest) = CombineWords rest
    CombineWords (more_stage first last false node rest) = CombinesWords node × CombineWords rest
