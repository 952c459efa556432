use Rattle.std.proofs.Common.{◌≡◌, ◌<◌, ℕ, Bool, true, false, get_or}
use Rattle.sp_bank.proofs.row.is_none_left.Given as goal

abbrev pub invariant-loop-last : goal.invariant-loop-last
invariant-loop-last l = (w : ℕ) → w < l.last → get_or l.separating w false ≡ true → ⊥
