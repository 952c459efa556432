use Rattle.std.proofs.Common.{◌≡◌, length}
use Rattle.sp_reader.specs.Limits.{place_in}
use Rattle.sp_reader.proofs.reader.place_of.Given as goal

abbrev pub invariant-loop-tokens : goal.invariant-loop-tokens
invariant-loop-tokens l = place_in l.text l.tokens l.left ≡ place_in l.text l.initial.tokens l.number

abbrev pub decreases-loop-tokens : goal.decreases-loop-tokens
decreases-loop-tokens l = length l.tokens
