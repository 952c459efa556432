use Rattle.std.proofs.Common.{◌≡◌, ◌*◌, ◌≤◌, drop}
use Rattle.sp_words.specs.Interface.{word_count}
use Rattle.sp_counts.specs.Capped.{most, capped}
use Rattle.sp_counts.proofs.words.word_count.Given as goal

abbrev pub invariant-loop-d : goal.invariant-loop-d
invariant-loop-d l = (l.count ≤ most) × (capped (l.count * word_count (drop l.d-index l.dims)) ≡ capped (word_count l.dims))
