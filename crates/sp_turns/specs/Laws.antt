-- How often a core goes around, by the turns of its program, as statements.
use Rattle.std.specs.Prelude.{◌≡◌, ℕ, ◌≤◌, List}
use Rattle.sp_words.specs.Ports.{PlainInput}
use Rattle.sp_tree.specs.Meaning as program
use Rattle.sp_tree.specs.Meaning.{seq}
use Rattle.sp_tree.specs.PlainProgram.{PlainProgram}
use Rattle.sp_tree.specs.Shape.{Shape}
use Rattle.sp_core.specs.History.{History}
use Rattle.sp_core.specs.Meaning as core
use Rattle.sp_core.specs.Meaning.{meaning}
use Rattle.sp_core.specs.PlainCore.{PlainCore}
use Rattle.sp_core.specs.Scope.{plainly}
use Rattle.sp_core.specs.Shape.{shape_of}
use Rattle.sp_sugar.specs.Core.{core_of}
use Rattle.sp_within.specs.Rounds.{rounds}

-- where the program ends, its core, read plainly, goes around no oftener than the program takes turns
abbrev pub RoundsWithinTurns : PlainProgram → PlainCore → Type 0
RoundsWithinTurns p c =
    (n : ℕ) (input : PlainInput) (outs : List ℕ) (drams : List (List ℕ)) (turns : ℕ) (shape : Shape) → seq n p input ≡ program.ended outs drams turns shape
    → (words : List ℕ) (contents : List (List ℕ)) (h : History) → meaning plainly n c input ≡ core.ended words contents h → rounds c.root (shape_of c.root h) ≤ turns

abbrev pub ProgramRoundsWithinTurns : PlainProgram → Type 0
ProgramRoundsWithinTurns p = RoundsWithinTurns p (core_of p)
