use Rattle.std.proofs.Common.{◌≡◌, ◌==◌, drop}
use Rattle.std.specs.List.{list_any}
use Rattle.sp_unroll.proofs.combined.takes.Given as goal

abbrev pub invariant-loop-a : goal.invariant-loop-a
invariant-loop-a l = list_any (λ a. a == l.word) (drop l.a-index l.a-items) ≡ list_any (λ a. a == l.word) l.op.args.items
