use Rattle.std.proofs.Common.{[], sym, ap, map, ◌∙◌}
use Rattle.sp_tree.specs.Plain.{plain_mem}
use Rattle.sp_tree.specs.PlainTree.{plain_stmt_kind}
use Rattle.sp_sugar.specs.Early.{early_stages}
use Rattle.sp_desugar.specs.Crossings.{onto}
use Rattle.sp_operations.specs.Sources.{sources_of}
use Rattle.sp_desugar.proofs.stages.push_early.Goals as goal

pub returns-in_ok-_next-in-Gather : goal.returns-in_ok-_next-in-Gather
returns-in_ok-_next-in-Gather c = λ rest.
    c.in_ok-_next-in-Gather.ensures [] rest
    ∙ ap (λ k. onto c.args.out.now.items (early_stages (map plain_mem c.args.mems.now) (sources_of c.args.sources.now) c.args.r (plain_stmt_kind k) rest)) (sym c.in-Gather.is)

pub returns-in_ok-_next-in-Scatter : goal.returns-in_ok-_next-in-Scatter
returns-in_ok-_next-in-Scatter c = λ rest.
    c.in_ok-_next-in-Scatter.ensures [] rest
    ∙ ap (λ k. onto c.args.out.now.items (early_stages (map plain_mem c.args.mems.now) (sources_of c.args.sources.now) c.args.r (plain_stmt_kind k) rest)) (sym c.in-Scatter.is)
