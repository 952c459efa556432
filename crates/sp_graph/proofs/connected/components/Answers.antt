use Rattle.std.proofs.Common.{◌≡◌, ◌<◌, map, refl, subst, sym, arith}
use Rattle.std.proofs.lemmas.Result.{IfOk-weaker}
use Rattle.sp_graph.specs.Components.{AreComponents}
use Rattle.sp_graph.specs.Search.{number_of}
use Rattle.sp_graph.proofs.Finished.{IsSearch-start, AreComponents-finished}
use Rattle.sp_graph.proofs.Steps.{IsSearch-at}
use Rattle.sp_graph.proofs.connected.components.Goals as goal

pub loop-root-init : goal.loop-root-init
loop-root-init c = record {
  search = IsSearch-at c.args.graph.now c.in_ok-search.ensures.marks c.in_ok-search.ensures.stack refl c.in_ok-search.ensures.count (IsSearch-start c.args.graph.now c.len.result c.len.ensures.nodes);
  path = c.in_ok-search.ensures.path;
  seen = λ node h. absurd (omega arith);
}

pub returns : goal.returns
returns c =
    IfOk-weaker c.numbers.result (λ numbers. numbers.items ≡ map number_of c.loop-root.search.marks.items) (λ numbers. AreComponents c.args.graph.now numbers.items)
    (λ numbers e. subst (λ ns. AreComponents c.args.graph.now ns) (sym e)
    (AreComponents-finished c.args.graph.now c.loop-root.search.marks.items c.loop-root.search.stack.items c.loop-root.search.count c.loop-root.invariant.search
    (λ node h. let below : node < c.loop-root.root = omega arith in c.loop-root.invariant.seen node below)))
    c.numbers.ensures
