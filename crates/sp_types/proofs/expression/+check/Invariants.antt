use Rattle.std.proofs.Common.{◌≡◌, drop}
use Rattle.sp_reader.specs.Plain.{plain_exprs}
use Rattle.sp_reader.specs.PlainTree.{row}
use Rattle.sp_types.specs.Expressions.{exprs_refusals}
use Rattle.sp_types.specs.First.{notes}
use Rattle.sp_types.specs.Plain.{visible_of}
use Rattle.sp_types.proofs.expression.+check.Given as goal

abbrev pub invariant-check_all-loop-e : goal.invariant-check_all-loop-e
invariant-check_all-loop-e l = notes l.finding.first (exprs_refusals (visible_of l.scope) l.ask (row (plain_exprs (drop l.e-index l.all))))
    ≡ notes l.fn.finding.first (exprs_refusals (visible_of l.scope) l.ask (row (plain_exprs l.all)))
