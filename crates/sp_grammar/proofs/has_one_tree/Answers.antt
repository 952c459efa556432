use Rattle.std.proofs.Common.{◌≡◌, ◌∙◌, Ok, sym}
use Rattle.sp_reader.specs.PlainStatement.{PlainSyntax}
use Rattle.std.specs.Prelude.{ℕ, Result}
use Rattle.sp_grammar.proofs.AgainPrograms.{program_again}
use Rattle.sp_grammar.proofs.has_one_tree.Goals as goal

-- src/lib.rt:18:1
pub returns : goal.returns
returns c = λ source ts first second h g. let same : ◌≡◌ {A = Result PlainSyntax ℕ} (Ok first) (Ok second) = sym (program_again source h) ∙ program_again source g in cc
