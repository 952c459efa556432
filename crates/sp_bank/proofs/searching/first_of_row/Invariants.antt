use Rattle.std.proofs.Common.{◌+◌, ◌*◌, ◌<◌, ℕ}
use Rattle.std.specs.Prelude.{map}
use Rattle.sp_bank.specs.Search.{HasNoneAt}
use Rattle.sp_bank.proofs.searching.first_of_row.Given as goal

abbrev pub invariant-loop-last : goal.invariant-loop-last
invariant-loop-last l = (w : ℕ) → w < l.last → HasNoneAt l.fn.rank l.fn.banks l.fn.block (l.fn.row * l.fn.banks + w) (map (λ g. g.items) l.fn.groups)
