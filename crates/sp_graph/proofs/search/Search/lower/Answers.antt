use Rattle.sp_graph.proofs.Steps.{set_last}
use Rattle.sp_graph.proofs.search.Search.lower.Goals as goal

pub returns-in-Some-clause-path : goal.returns-in-Some-clause-path
returns-in-Some-clause-path c visits visit e =
    set_last c.args.self.now.path.items visits visit c.in-Some.visit.now _ c.args.low c.min-visit.result e c.args.self.now.path.ok.0 c.in-Some.ensures.value c.min-visit.ensures
