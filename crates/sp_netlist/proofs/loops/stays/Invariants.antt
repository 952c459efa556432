use Rattle.std.proofs.Common.{◌≡◌, ℕ, ◌<◌, get_or}
use Rattle.sp_netlist.proofs.loops.stays.Given as goal

abbrev pub invariant-loop-target : goal.invariant-loop-target
invariant-loop-target l = (k : ℕ) → k < l.target-index → get_or l.numbers (get_or l.targets k 0) 0 ≡ l.own → ⊥
