use Rattle.std.proofs.Common.{◌≡◌, ◌≤◌, ◌<◌, ◌↔◌, ℕ, true, false, get_or, length}
use Rattle.sp_bank.specs.Row.{ArePlacesFar}
use Rattle.sp_bank.proofs.row.keep_far.Given as goal

abbrev pub invariant-loop-last : goal.invariant-loop-last
invariant-loop-last l = record {
  before : (w : ℕ) → w < l.last →
      (get_or l.separating w false ≡ true) ↔ ((get_or l.initial.separating w false ≡ true) × ArePlacesFar l.fn.banks l.fn.block l.starts l.steps w (length l.starts));
  after : (w : ℕ) → l.last ≤ w → get_or l.separating w false ≡ get_or l.initial.separating w false;
  long : length l.separating ≡ 32;
}
