use Rattle.std.proofs.Common.{◌≡◌, ◌++◌, length, []}
use Rattle.sp_reader.specs.declared.token.TokenKind.TheVariants.{End}
use Rattle.sp_reader.specs.Tokens.{separated}
use Rattle.sp_reader.proofs.separators.separate.Given as goal

abbrev pub invariant-loop-scanned : goal.invariant-loop-scanned
invariant-loop-scanned l = l.tokens.items ++ separated l.before l.brackets.items l.scanned ≡ separated End [] l.initial.scanned

abbrev pub decreases-loop-scanned : goal.decreases-loop-scanned
decreases-loop-scanned l = length l.scanned
