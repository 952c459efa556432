use Rattle.std.proofs.Common.{refl}
use Rattle.std.specs.Prelude.{length}
use Rattle.sp_sugar.proofs.laws.expressions_keep_rules.Goals as goal
use Rattle.sp_sugar.proofs.Keeps.{keeps}

pub returns : goal.returns
returns c p core e around scope sources earlier h typed may = keeps p core h around scope sources e (length earlier) earlier refl typed may
