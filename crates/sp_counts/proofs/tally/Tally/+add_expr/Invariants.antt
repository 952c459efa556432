use Rattle.std.proofs.Common.{drop}
use Rattle.sp_tree.specs.Plain.{plain_exprs}
use Rattle.sp_tree.specs.Tallies.{tallies}
use Rattle.sp_counts.proofs.Remaining.{Remains}
use Rattle.sp_counts.proofs.tally.Tally.+add_expr.Given as goal

abbrev pub invariant-add_exprs-loop-e : goal.invariant-add_exprs-loop-e
invariant-add_exprs-loop-e l = Remains l.fn.self l.self (tallies (plain_exprs l.all)) (tallies (plain_exprs (drop l.e-index l.all)))
