use Rattle.std.proofs.Common.{◌≡◌, ◌<◌, ◌≤◌, ℕ, length}
use Rattle.sp_bank.specs.Separation.{AreDifferent, IsListed}
use Rattle.sp_bank.proofs.different.different.Given as goal

abbrev pub invariant-loop-u : goal.invariant-loop-u
invariant-loop-u l = record {
  different : AreDifferent l.fn.rank l.group l.firsts.items;
  listed : (v : ℕ) → v < l.u → IsListed l.fn.rank l.group l.firsts.items v;
  room : l.firsts.capacity ≡ 33;
  few : length l.firsts.items ≤ 33;
}
