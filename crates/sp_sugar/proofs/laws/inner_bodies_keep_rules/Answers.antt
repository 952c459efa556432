use Rattle.std.specs.Prelude.{length}
use Rattle.sp_sugar.proofs.laws.inner_bodies_keep_rules.Goals as goal
use Rattle.sp_sugar.proofs.InnerKeeps.{inner_right}

pub returns : goal.returns
returns x p core body around scope sources loops c h inner typed g own r counters = inner_right p core h around scope sources loops body inner typed (length p.counters) counters c g own r
