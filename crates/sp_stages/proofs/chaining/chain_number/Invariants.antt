use Rattle.std.proofs.Common.{◌≡◌, ℕ, ◌≤◌}
use Rattle.sp_stages.specs.Chains.{AreListed, leads_in}
use Rattle.sp_stages.proofs.Counting.{count_below}
use Rattle.sp_stages.proofs.chaining.chain_number.Given as goal

abbrev pub invariant-loop-r : goal.invariant-loop-r
invariant-loop-r l =
    (l.count ≤ l.r)
    × ((leader : ℕ → ℕ) → AreListed leader l.leaders → l.count ≡ count_below (leads_in l.slots leader l.slot) l.r)
