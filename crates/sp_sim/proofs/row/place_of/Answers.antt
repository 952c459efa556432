use Rattle.std.proofs.Common.{subst}
use Rattle.sp_sim.specs.Rows.{IsPlaceOf}
use Rattle.sp_sim.proofs.RowLemmas.{place_dense}
use Rattle.sp_sim.proofs.row.place_of.Goals as goal

pub returns-then-dense : goal.returns-then-dense
returns-then-dense c = subst (λ n. IsPlaceOf c.args.nets.now n c.number-number.result) c.number-number.ensures (place_dense c.args.nets.now c.number-number.result (c.requires.dense c.if-dense.true))

pub returns : goal.returns
returns c = subst (λ n. IsPlaceOf c.args.nets.now n c.searched.result) c.number-number.ensures c.searched.ensures
