use Rattle.std.proofs.Common.{ℕ, ◌<◌, length}
use Rattle.sp_bank.specs.Separation.{PairApart, access_count}
use Rattle.sp_bank.proofs.clash.first_clash.Given as goal

abbrev pub invariant-loop-u : goal.invariant-loop-u
invariant-loop-u l = (u v : ℕ) → u < l.u → u < v → v < access_count (length l.s.alpha) l.group → PairApart l.s l.group u v
