use Rattle.std.proofs.Common.{◌≡◌, ◌+◌, ◌<◌, ℕ, pos, get_or, length}
use Rattle.std.specs.Int.{int_rem_euclid}
use Rattle.std.specs.List.{All}
use Rattle.sp_bank.specs.Separation.{access, constants}
use Rattle.sp_bank.proofs.row.steps.Given as goal

abbrev pub invariant-loop-first : goal.invariant-loop-first
invariant-loop-first l = record {
  steps : (i : ℕ) → i < l.first-index →
      pos (get_or l.made.items i 0) ≡ int_rem_euclid (get_or (constants (access (l.last + 1) l.group (get_or l.firsts i 0))) l.last (pos 0)) (pos l.period);
  same : length l.made.items ≡ l.first-index;
  below : All (λ s. s < l.period) l.made.items;
  room : l.made.capacity ≡ 33;
}
