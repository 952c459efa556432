use Rattle.std.proofs.Common.{◌≢◌, ◌<◌, ℕ, get_or}
use Rattle.sp_bank.specs.Separation.{access, constants}
use Rattle.sp_bank.proofs.different.is_listed.Given as goal

abbrev pub invariant-loop-first : goal.invariant-loop-first
invariant-loop-first l = (i : ℕ) → i < l.first-index →
    constants (access l.fn.rank l.group (get_or l.firsts i 0)) ≢ constants (access l.fn.rank l.group l.fn.u)
