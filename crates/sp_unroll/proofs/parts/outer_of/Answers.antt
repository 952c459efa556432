use Rattle.std.proofs.Common.{◌∙◌}
use Rattle.sp_core.specs.Plain.{plain_stage_list}
use Rattle.sp_core.specs.PlainCore.{outer}
use Rattle.sp_unroll.proofs.TreeLemmas.{plain_outer}
use Rattle.sp_unroll.proofs.parts.outer_of.Goals as goal

pub returns : goal.returns
returns c =
    plain_outer c.in_ok-counters_made.counters_made c.args.style c.in_ok-owned_made.owned_made c.args.stages
    ∙ (λ i. outer (c.in_ok-counters_made.ensures i) c.args.style (c.in_ok-owned_made.ensures i) (plain_stage_list c.args.stages.items))
