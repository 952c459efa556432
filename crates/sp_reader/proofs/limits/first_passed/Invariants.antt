use Rattle.std.proofs.Common.{◌≡◌, ◌+◌, length}
use Rattle.sp_reader.specs.Counted.{plain_counts}
use Rattle.sp_reader.specs.Limits.{passed_from, first_passed}
use Rattle.sp_reader.proofs.limits.first_passed.Given as goal

abbrev pub invariant-loop-tokens : goal.invariant-loop-tokens
invariant-loop-tokens l =
    (passed_from l.source (plain_counts l.counts) l.number l.tokens ≡ first_passed l.source l.initial.tokens) × (l.number + length l.tokens ≡ length l.initial.tokens)

abbrev pub decreases-loop-tokens : goal.decreases-loop-tokens
decreases-loop-tokens l = length l.tokens
