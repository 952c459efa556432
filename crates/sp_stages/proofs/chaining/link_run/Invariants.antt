use Rattle.std.proofs.Common.{◌≡◌, ℕ, map, length}
use Rattle.sp_core.specs.CoreParts.{plain_core}
use Rattle.sp_stages.specs.Chains.{AreListed, after_links, is_link}
use Rattle.sp_plan.specs.Runs.{plain_run}
use Rattle.sp_stages.proofs.chaining.link_run.Given as goal

abbrev pub invariant-loop-q : goal.invariant-loop-q
invariant-loop-q l =
    (length l.leaders.items ≡ length l.initial.leaders.items)
    × ((leader : ℕ → ℕ) → AreListed leader l.initial.leaders.items → AreListed (after_links (is_link (plain_core l.core) l.meets l.parallel (map plain_run l.runs) l.slots) leader l.p l.q) l.leaders.items)
