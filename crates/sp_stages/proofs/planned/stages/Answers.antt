use Rattle.std.proofs.Common.{subst}
use Rattle.sp_core.specs.CoreParts.{plain_core}
use Rattle.sp_stages.specs.Plans.{AreFinestChainsOf}
use Rattle.sp_stages.proofs.RightPlan.{right_outer}
use Rattle.sp_stages.proofs.planned.stages.Goals as goal

pub returns-clause-right : goal.returns-clause-right
returns-clause-right c =
    let core = plain_core c.args.core.now in
    λ e. right_outer core c.args.meets.now.pairs.items c.args.node e c.in_ok-slots.slots.items c.in_ok-chains.chains.items c.in_ok-slots.ensures
    (subst (λ slots. AreFinestChainsOf core c.args.meets.now.pairs.items slots c.args.node c.in_ok-chains.chains.items) c.deref.ensures.value c.in_ok-chains.ensures)
