use Rattle.std.proofs.Common.{◌≡◌, drop, false, get_or}
use Rattle.std.specs.List.{list_any}
use Rattle.sp_unroll.proofs.shared.some_depend.Given as goal

abbrev pub invariant-loop-k : goal.invariant-loop-k
invariant-loop-k l = list_any (λ k. get_or l.earlier k false) (drop l.k-index l.args) ≡ list_any (λ k. get_or l.earlier k false) l.args
