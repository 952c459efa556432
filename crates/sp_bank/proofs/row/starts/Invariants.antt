use Rattle.std.proofs.Common.{◌≡◌, ◌+◌, ◌<◌, ℕ, pos, get_or, length, take}
use Rattle.std.specs.Int.{int_rem_euclid}
use Rattle.std.specs.List.{All}
use Rattle.sp_bank.specs.Separation.{access, constants, weighted_sum}
use Rattle.sp_bank.proofs.row.starts.Given as goal

abbrev pub invariant-loop-first : goal.invariant-loop-first
invariant-loop-first l = record {
  starts : (i : ℕ) → i < l.first-index →
      pos (get_or l.made.items i 0) ≡
      int_rem_euclid (weighted_sum l.before (constants (take (length l.before) (access (length l.before + 1) l.group (get_or l.firsts i 0))))) (pos l.period);
  same : length l.made.items ≡ l.first-index;
  below : All (λ s. s < l.period) l.made.items;
  room : l.made.capacity ≡ 33;
}
