-- Laws of whole programs and their cores, as statements.
use Rattle.std.specs.Prelude.{◌≡◌, ℕ, List}
use Rattle.sp_words.specs.Ports.{PlainInput}
use Rattle.sp_tree.specs.Meaning as program
use Rattle.sp_tree.specs.Meaning.{seq}
use Rattle.sp_tree.specs.PlainProgram.{PlainProgram}
use Rattle.sp_tree.specs.Shape.{Shape}
use Rattle.sp_core.specs.History.{History}
use Rattle.sp_core.specs.Meaning as core
use Rattle.sp_core.specs.Meaning.{meaning}
use Rattle.sp_core.specs.PlainCore.{PlainCore}
use Rattle.sp_core.specs.Scope.{plainly}
use Rattle.sp_core.specs.Shape.{shape_of}
use Rattle.sp_sugar.specs.Core.{core_of}
use Rattle.sp_same.specs.Counts.{counts_in, counts_of}

-- where the program ends, so does the core, read plainly: with the same words of outputs and DRAMs, and what is counted in its
-- history is what is counted in the shape of the program's run
abbrev pub EndsAs : PlainProgram → PlainCore → Type 0
EndsAs p c =
    (n : ℕ) (input : PlainInput) (outs : List ℕ) (drams : List (List ℕ)) (t : ℕ) (shape : Shape) → seq n p input ≡ program.ended outs drams t shape
    → (h : History) × (meaning plainly n c input ≡ core.ended outs drams h) × (counts_of c.root (shape_of c.root h) ≡ counts_in shape)

abbrev pub IsProgramFollowed : PlainProgram → Type 0
IsProgramFollowed p = EndsAs p (core_of p)
