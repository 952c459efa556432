use Rattle.std.specs.Prelude.{[]}
use Rattle.sp_core.specs.Around.{nothing}
use Rattle.sp_narrow.proofs.Limits.{less_limit}
use Rattle.sp_narrow.proofs.Rules.{has_lanes}
use Rattle.sp_narrow.proofs.laws.narrow_cores_have_less_limits.Goals as goal

pub returns : goal.returns
returns c core h = less_limit core (has_lanes core nothing [] core.root h.nodes)
