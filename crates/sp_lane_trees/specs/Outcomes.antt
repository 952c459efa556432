-- A law of whole cores in lanes, as a statement.
use Rattle.std.specs.Prelude.{◌≡◌, ◌≤◌, ℕ, List}
use Rattle.sp_words.specs.Ports.{PlainInput}
use Rattle.sp_tree.specs.PlainProgram.{PlainProgram}
use Rattle.sp_core.specs.History.{History}
use Rattle.sp_core.specs.Inputs.{InputFits}
use Rattle.sp_core.specs.Meaning.{ended, meaning}
use Rattle.sp_core.specs.PlainCore.{PlainCore}
use Rattle.sp_core.specs.Scope.{plainly, in_lanes}
use Rattle.sp_core.specs.Shape.{shape_of}
use Rattle.sp_within.specs.Rounds.{rounds}
use Rattle.sp_sugar.specs.Core.{core_of}
use Rattle.sp_lanes.specs.Unrolled.{unrolled}
use Rattle.sp_lane_groups.specs.InnersAlike.{GoAlike}
use Rattle.sp_lane_trees.specs.Words.{CombinesWords}

-- where a core ends, read plainly, it ends in lanes with the same words, read in lanes, and goes around no oftener; what is done goes
-- alike, each part with the same counts
abbrev pub EndsInLanes : PlainCore → Type 0
EndsInLanes core =
    (turns : ℕ) (input : PlainInput) → InputFits core input → (outs : List ℕ) (drams : List (List ℕ)) (h : History) → meaning plainly turns core input ≡ ended outs drams h
    → (g : History) × (meaning in_lanes turns (unrolled core) input ≡ ended outs drams g) × (rounds (unrolled core).root (shape_of (unrolled core).root g) ≤ rounds core.root (shape_of core.root h)) × GoAlike core.root h g

-- so does the core of a program where each controller with stages has one lane, or none of its stages combines, or the last one
-- combines a word or the elements of a memory
abbrev pub ProgramGoes : PlainProgram → Type 0
ProgramGoes p = CombinesWords (core_of p) (core_of p).root → EndsInLanes (core_of p)
