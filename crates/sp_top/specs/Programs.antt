-- Commands that read a program and give a text of it.
use Rattle.std.specs.Prelude.{◌≡◌, ℕ, List, [], ◌∷◌}
use Rattle.sp_edges.specs.Standing.{Standing}
use Rattle.sp_edges.specs.Calls.{Call, given}
use Rattle.sp_top.specs.Reads.{GivesText}

-- the longest text of a program
abbrev pub longest_program : ℕ
longest_program = 1048576

-- the command is done: P was asked for and given, and a text of its bytes stands on `out` alone
pub record Translates (IsText : (bytes text : List ℕ) → Type 0) (told : List ℕ → Standing) (asked : List Call → Type 0) (program out aside : List ℕ) : Type 0 where
  pub bytes : List ℕ
  pub asks : asked (given program ∷ [])
  pub gives : GivesText (told program) longest_program bytes
  pub is_text : IsText bytes out
  pub nothing_aside : aside ≡ []
