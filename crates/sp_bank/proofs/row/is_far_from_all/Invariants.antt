use Rattle.std.proofs.Common.{◌≡◌, ◌*◌, ◌<◌, ◌⊎◌, ℕ, false, get_or}
use Rattle.sp_bank.proofs.RowLemmas.{IsUp, IsDown}
use Rattle.sp_bank.proofs.row.is_far_from_all.Given as goal

abbrev pub invariant-loop-distance : goal.invariant-loop-distance
invariant-loop-distance l = (y k : ℕ) → k < l.distance → y < l.fn.banks * l.fn.block →
    IsUp (l.fn.banks * l.fn.block) l.place k y ⊎ IsDown (l.fn.banks * l.fn.block) l.place k y → get_or l.taken y false ≡ false
