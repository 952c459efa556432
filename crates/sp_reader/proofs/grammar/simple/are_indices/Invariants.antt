use Rattle.std.proofs.Common.{◌≡◌, length}
use Rattle.sp_reader.specs.PlainProgram.{plain_spans}
use Rattle.sp_reader.specs.SimpleRules.{are_indices}
use Rattle.sp_reader.proofs.grammar.simple.are_indices.Given as goal

abbrev pub invariant-loop-spans : goal.invariant-loop-spans
invariant-loop-spans l = are_indices (plain_spans l.spans) ≡ are_indices (plain_spans l.initial.spans)

abbrev pub decreases-loop-spans : goal.decreases-loop-spans
decreases-loop-spans l = length l.spans
