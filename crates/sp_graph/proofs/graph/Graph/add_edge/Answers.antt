use Rattle.std.proofs.Common.{subst, sym, ◌∙◌}
use Rattle.sp_graph.specs.Edges.{IsGraph}
use Rattle.sp_graph.proofs.Graphs.{IsGraph-add, map-set_same, map-set_push, OnErr-from}
use Rattle.sp_graph.proofs.graph.Graph.add_edge.Goals as goal

pub invariant_of-self : goal.invariant_of-self
invariant_of-self c =
    subst IsGraph
    (c.self.view_is ∙ sym (map-set_same (λ v. v.items) c.self.inside.targets.items c.args.self.now c.self.view_is c.args.from c.index_mut.result.now c.requires.from c.index_mut.ensures.value c.push.new.self c.in_err-push.ensures.items))
    c.self.invariant

pub returns-in_err-push-clause-unchanged : goal.returns-in_err-push-clause-unchanged
returns-in_err-push-clause-unchanged c =
    OnErr-from c.from_residual.result
    (map-set_same (λ v. v.items) c.self.inside.targets.items c.args.self.now c.self.view_is c.args.from c.index_mut.result.now c.requires.from c.index_mut.ensures.value c.push.new.self c.in_err-push.ensures.items)

pub invariant_of-self-2 : goal.invariant_of-self-2
invariant_of-self-2 c =
    subst IsGraph
    (sym (map-set_push (λ v. v.items) c.self.inside.targets.items c.args.self.now c.self.view_is c.args.from c.index_mut.result.now c.requires.from c.index_mut.ensures.value c.push.new.self c.args.to c.in_ok-push.ensures.items))
    (IsGraph-add c.args.self.now c.args.from c.args.to c.requires.from c.requires.to (subst IsGraph c.self.view_is c.self.invariant))

pub returns-clause-added : goal.returns-clause-added
returns-clause-added c = map-set_push (λ v. v.items) c.self.inside.targets.items c.args.self.now c.self.view_is c.args.from c.index_mut.result.now c.requires.from c.index_mut.ensures.value c.push.new.self c.args.to c.in_ok-push.ensures.items
