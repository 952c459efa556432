use Rattle.std.proofs.Common.{◌≡◌, ℕ, ◌<◌, length, get_or}
use Rattle.sp_seq.proofs.words.Words.of.Given as goal

abbrev pub invariant-loop-i : goal.invariant-loop-i
invariant-loop-i l = (l.words.width ≡ l.width) × (length l.words.words ≡ length l.given) × ((k : ℕ) → k < l.i → get_or l.words.words k 0 ≡ get_or l.given k 0)
