use Rattle.std.proofs.Common.{◌≤◌, length, subst, sym}
use Rattle.std.proofs.lemmas.Bool.{leb-true}
use Rattle.sp_around_tables.proofs.table.are_enough.Goals as goal

pub returns-then-values-counters-clause-lanes : goal.returns-then-values-counters-clause-lanes
returns-then-values-counters-clause-lanes c = λ e x there. subst (λ n. n ≤ length c.args.masks.now) (sym (c.lanes-lanes.ensures x there)) (leb-true c.lanes-lanes.result (length c.args.masks.now) e)
