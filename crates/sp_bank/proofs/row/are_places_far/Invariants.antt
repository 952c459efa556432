use Rattle.std.proofs.Common.{◌≡◌, ◌*◌, ◌<◌, ℕ, true, false, get_or, length}
use Rattle.sp_bank.specs.Row.{ArePlacesFar, place_of}
use Rattle.sp_bank.proofs.row.are_places_far.Given as goal

abbrev pub invariant-loop-i : goal.invariant-loop-i
invariant-loop-i l = record {
  far : ArePlacesFar l.fn.banks l.fn.block l.starts l.steps l.fn.last l.i;
  only : (y : ℕ) → get_or l.taken y false ≡ true → (j : ℕ) × (j < l.i) × (place_of (l.fn.banks * l.fn.block) l.starts l.steps l.fn.last j ≡ y);
  taken : (j : ℕ) → j < l.i → get_or l.taken (place_of (l.fn.banks * l.fn.block) l.starts l.steps l.fn.last j) false ≡ true;
  long : length l.taken ≡ 128;
}
