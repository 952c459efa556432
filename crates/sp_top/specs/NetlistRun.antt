-- What private functions of `run` know of each other.
use Rattle.std.specs.Prelude.{◌≡◌, ℕ, List}
use Rattle.sp_setup.specs.Setup.{PlainSetup}
use Rattle.sp_tree.specs.Meaning.{ended}
use Rattle.sp_tree.specs.Meaning as sequential
use Rattle.sp_tree.specs.PlainProgram.{PlainProgram}
use Rattle.sp_tree.specs.Shape.{Shape}
use Rattle.sp_top.specs.Seq.{input_of}

-- within the setup's turns the program ends, and takes so many
pub record Takes (program : PlainProgram) (plain : PlainSetup) (turns : ℕ) : Type 0 where
  pub outs : List ℕ
  pub drams : List (List ℕ)
  pub shape : Shape
  pub ends : sequential.seq plain.turns program (input_of plain) ≡ ended outs drams turns shape
