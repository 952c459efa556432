use Rattle.std.proofs.Common.{ap, ◌∙◌}
use Rattle.sp_core.specs.Store.{changed}
use Rattle.sp_operations.proofs.SourceLemmas.{set_sources}
use Rattle.sp_operations.specs.Sources.{plain_source}
use Rattle.sp_operations.proofs.sources.set_source.Goals as goal

pub returns : goal.returns
returns c =
    set_sources c.reach.new.sources.items c.args.v c.args.source c.in_ok-reach.ensures.reached
    ∙ ap (λ all. changed all c.args.v (plain_source c.args.source)) c.in_ok-reach.ensures.same
