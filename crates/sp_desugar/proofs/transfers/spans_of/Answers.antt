use Rattle.std.proofs.Common.{◌++◌, map, ap, ◌∙◌}
use Rattle.sp_core.specs.Plain as core
use Rattle.sp_tree.specs.Plain.{plain_mem}
use Rattle.sp_tree.specs.PlainTree.{plain_span}
use Rattle.sp_sugar.specs.Early.{spans_from}
use Rattle.sp_desugar.specs.Crossings.{crosses_of}
use Rattle.sp_operations.specs.Sources.{sources_of}
use Rattle.sp_desugar.specs.declared.early.Crossing.TheVariants.{Part}
use Rattle.sp_desugar.proofs.transfers.spans_of.Goals as goal

pub returns : goal.returns
returns c =
    c.in_ok-push_spans.ensures
    ∙ ap (λ items. map core.plain_span items ++ spans_from (map plain_mem c.args.mems.now) (sources_of c.args.sources.now) (crosses_of (Part c.is_early_slice-early.result)) c.args.r (map plain_span c.args.spans.now)) c.new-all.ensures.items
    ∙ ap (λ early. spans_from (map plain_mem c.args.mems.now) (sources_of c.args.sources.now) (crosses_of (Part early)) c.args.r (map plain_span c.args.spans.now)) c.is_early_slice-early.ensures
