use Rattle.std.proofs.Common.{ℕ, ◌<◌, get_or, Vec, Global}
use Rattle.sp_affine.specs.Affine.{Affine}
use Rattle.sp_bank.specs.Separation.{IsGroup}
use Rattle.sp_bank.proofs.group.are_groups.Given as goal

abbrev pub invariant-loop-group : goal.invariant-loop-group
invariant-loop-group l = (k : ℕ) (d : Vec Affine Global) → k < l.group-index → IsGroup l.fn.rank (get_or l.groups k d).items
