use Rattle.std.proofs.Common.{◌≡◌, length}
use Rattle.sp_reader.specs.Steps.{semicolons}
use Rattle.sp_reader.proofs.grammar.parser.semicolons.Given as goal

abbrev pub invariant-loop-rest : goal.invariant-loop-rest
invariant-loop-rest l = semicolons l.rest ≡ semicolons l.tokens

abbrev pub decreases-loop-rest : goal.decreases-loop-rest
decreases-loop-rest l = length l.rest
