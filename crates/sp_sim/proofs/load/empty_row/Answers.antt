use Rattle.std.proofs.Common.{ℕ, List, ap, ◌∙◌, map}
use Rattle.sp_sim.proofs.load.empty_row.Goals as goal

abbrev zeros : List ℕ → List (ℕ × ℕ)
zeros ns = map (λ n. (n, 0)) ns

pub returns : goal.returns
returns c = (c.in_ok-nets.nets.items, c.in_ok-row.ensures ∙ ap zeros c.deref.ensures.value, c.in_ok-nets.ensures.same)
