use Rattle.std.proofs.Common.{◌≤◌, ap, refl, length, reverse, subst}
use Rattle.sp_graph.specs.Edges.{targets_of}
use Rattle.sp_graph.proofs.Closing.{close_visit, less_work_after_closing}
use Rattle.sp_graph.proofs.Steps.{IsSearch-at, less_at, stack_node, after_lower}
use Rattle.sp_graph.proofs.search.Search.go_on.Goals as goal

pub close-requires-clause-nodes : goal.close-requires-clause-nodes
close-requires-clause-nodes c = stack_node c.args.graph.now c.args.self.now.marks.items c.args.self.now.stack.items c.args.self.now.count c.requires.marked

pub returns-then-visit-clause-search : goal.returns-then-visit-clause-search
returns-then-visit-clause-search c =
    let ended : length (targets_of c.args.graph.now c.args.visit.node) ≤ c.args.visit.next = subst (λ ts. length ts ≤ c.args.visit.next) c.targets.ensures.targets c.if-visit-targets.false
    in IsSearch-at c.args.graph.now refl c.close.ensures.stack (ap (λ p. reverse p.items) c.close.ensures.path) c.close.ensures.count
    (close_visit c.args.graph.now c.args.self.now.marks.items c.close.new.self.marks.items c.args.self.now.stack.items c.args.self.now.count c.args.visit (reverse c.args.self.now.path.items) c.requires ended c.if-visit.true c.close.ensures.marks)

pub returns-then-visit-clause-fewer : goal.returns-then-visit-clause-fewer
returns-then-visit-clause-fewer c =
    let ended : length (targets_of c.args.graph.now c.args.visit.node) ≤ c.args.visit.next = subst (λ ts. length ts ≤ c.args.visit.next) c.targets.ensures.targets c.if-visit-targets.false
    in less_at c.args.graph.now _ refl (ap (λ p. reverse p.items) c.close.ensures.path)
    (less_work_after_closing c.args.graph.now c.args.self.now.marks.items c.close.new.self.marks.items c.args.self.now.stack.items c.args.self.now.count c.args.visit (reverse c.args.self.now.path.items) c.requires ended c.if-visit.true c.close.ensures.marks)

pub returns-else-visit-clause-search : goal.returns-else-visit-clause-search
returns-else-visit-clause-search c =
    let ended : length (targets_of c.args.graph.now c.args.visit.node) ≤ c.args.visit.next = subst (λ ts. length ts ≤ c.args.visit.next) c.targets.ensures.targets c.if-visit-targets.false
    in IsSearch-at c.args.graph.now (ap (λ m. m.items) c.lower.ensures.marks) (ap (λ m. m.items) c.lower.ensures.stack) refl c.lower.ensures.count
    (after_lower c.args.graph.now c.args.self.now.marks.items c.args.self.now.stack.items c.args.self.now.count c.args.visit c.args.self.now.path.items c.lower.new.self.path.items c.requires ended c.if-visit.false c.lower.ensures.path).0

pub returns-else-visit-clause-fewer : goal.returns-else-visit-clause-fewer
returns-else-visit-clause-fewer c =
    let ended : length (targets_of c.args.graph.now c.args.visit.node) ≤ c.args.visit.next = subst (λ ts. length ts ≤ c.args.visit.next) c.targets.ensures.targets c.if-visit-targets.false
    in less_at c.args.graph.now _ (ap (λ m. m.items) c.lower.ensures.marks) refl
    (after_lower c.args.graph.now c.args.self.now.marks.items c.args.self.now.stack.items c.args.self.now.count c.args.visit c.args.self.now.path.items c.lower.new.self.path.items c.requires ended c.if-visit.false c.lower.ensures.path).1
