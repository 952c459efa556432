-- What every tree that is read keeps.
use Rattle.std.specs.Prelude.{◌≡◌, ℕ, List, Ok}
use Rattle.sp_reader.specs.Limits.{read_of}
use Rattle.sp_reader.specs.PlainStatement.{PlainSyntax}
use Rattle.sp_typed.specs.ReadTree.{IsReadTree}

abbrev pub TreesKeepTheirRules : Type 0
TreesKeepTheirRules = (text : List ℕ) (tree : PlainSyntax) → read_of text ≡ Ok tree → IsReadTree tree
