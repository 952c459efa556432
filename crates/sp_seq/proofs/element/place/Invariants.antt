use Rattle.std.proofs.Common.{◌≡◌, ◌+◌, ◌*◌, ◌≤◌, drop}
use Rattle.sp_words.specs.Interface.{word_count}
use Rattle.sp_seq.specs.Places.{place_in}
use Rattle.sp_seq.proofs.PlaceLemmas.{place_from}
use Rattle.sp_seq.proofs.element.place.Given as goal

abbrev pub invariant-loop-k : goal.invariant-loop-k
invariant-loop-k l = (place_from l.at (drop l.k l.dims) (drop l.k l.indices) ≡ place_in l.dims l.indices) × ((l.at + 1) * word_count (drop l.k l.dims) ≤ word_count l.dims)
