use Rattle.std.proofs.Common.{◌≡◌, ◌+◌, length}
use Rattle.sp_reader.specs.Tokens.{comment_from}
use Rattle.sp_reader.proofs.scan.comment_len.Given as goal

abbrev pub invariant-loop-text : goal.invariant-loop-text
invariant-loop-text l = (comment_from l.before l.text ≡ comment_from 0 l.initial.text) × (l.before + length l.text ≡ length l.initial.text)

abbrev pub decreases-loop-text : goal.decreases-loop-text
decreases-loop-text l = length l.text
