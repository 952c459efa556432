use Rattle.std.proofs.Common.{◌∙◌, subst}
use Rattle.sp_graph.specs.Edges.{IsGraph}
use Rattle.sp_graph.proofs.Graphs.{All-targets, targets_of-read}
use Rattle.sp_graph.proofs.graph.Graph.targets.Goals as goal

pub returns-clause-nodes : goal.returns-clause-nodes
returns-clause-nodes c =
    All-targets
    c.args.self.now
    c.args.node
    c.as_slice.result.now
    (subst IsGraph c.self.view_is c.self.invariant)
    (c.as_slice.ensures.value ∙ targets_of-read (λ v. v.items) c.self.inside.targets.items c.args.self.now c.self.view_is c.args.node c.index.result.now c.requires c.index.ensures)
