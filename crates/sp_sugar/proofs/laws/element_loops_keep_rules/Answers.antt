use Rattle.std.specs.Prelude.{length}
use Rattle.sp_sugar.proofs.laws.element_loops_keep_rules.Goals as goal
use Rattle.sp_sugar.proofs.ElementKeeps.{loop_right}

pub returns : goal.returns
returns x p core part around acc begun comb h own is counts few near a b = loop_right p core h around (length p.counters) part acc begun comb own.exists is own.usable a b counts few near
