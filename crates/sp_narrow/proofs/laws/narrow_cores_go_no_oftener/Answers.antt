use Rattle.std.specs.Prelude.{[]}
use Rattle.sp_core.specs.Around.{nothing}
use Rattle.sp_narrow.proofs.Rounds.{no_oftener}
use Rattle.sp_narrow.proofs.Rules.{has_lanes}
use Rattle.sp_narrow.proofs.laws.narrow_cores_go_no_oftener.Goals as goal

pub returns : goal.returns
returns c core h = no_oftener core (has_lanes core nothing [] core.root h.nodes)
