use Rattle.sp_graph.proofs.Steps.{reversed, next_target, mark_read, look_on_stack, after_enter, less_after_enter}
use Rattle.std.proofs.Common.{reverse}
use Rattle.sp_graph.proofs.search.Search.look_at_next.Goals as goal

pub returns-in_ok-push-in-Unseen-clause-search : goal.returns-in_ok-push-in-Unseen-clause-search
returns-in_ok-push-in-Unseen-clause-search c =
    let s = c.requires.search
    in let t = next_target c.args.graph.now c.args.self.now.marks.items c.args.visit c.targets.result.now c.targets.ensures.graph s.marked.each_node c.targets.ensures.targets c.requires.next
    in after_enter c.enter.result c.args.graph.now c.args.self.now.marks.items _ c.args.self.now.stack.items _ c.args.self.now.path.items c.push.new.self.items _ c.args.self.now.count _ c.args.visit _ c.enter.ensures.marks c.enter.ensures.stack c.enter.ensures.path c.enter.ensures.count c.in_ok-push-in-Unseen.ensures.items s (mark_read _ _ _ _ t.inside c.index.ensures c.in-Unseen.is) t

pub returns-in_ok-push-in-Unseen-clause-fewer : goal.returns-in_ok-push-in-Unseen-clause-fewer
returns-in_ok-push-in-Unseen-clause-fewer c =
    let s = c.requires.search
    in let t = next_target c.args.graph.now c.args.self.now.marks.items c.args.visit c.targets.result.now c.targets.ensures.graph s.marked.each_node c.targets.ensures.targets c.requires.next
    in less_after_enter c.enter.result c.args.graph.now c.args.self.now.marks.items _ c.args.self.now.stack.items _ c.args.self.now.path.items c.push.new.self.items _ c.args.self.now.count _ c.args.visit _ c.enter.ensures.marks c.enter.ensures.stack c.enter.ensures.path c.enter.ensures.count c.in_ok-push-in-Unseen.ensures.items s (mark_read _ _ _ _ t.inside c.index.ensures c.in-Unseen.is) t

pub returns-in_ok-push-in-OnStack-clause-search : goal.returns-in_ok-push-in-OnStack-clause-search
returns-in_ok-push-in-OnStack-clause-search c =
    let s = c.requires.search
    in let t = next_target c.args.graph.now c.args.self.now.marks.items c.args.visit c.targets.result.now c.targets.ensures.graph s.marked.each_node c.targets.ensures.targets c.requires.next
    in rw (reversed _ _ _ c.in_ok-push-in-OnStack.ensures.items)
    (look_on_stack c.args.graph.now c.args.self.now.marks.items c.args.self.now.stack.items c.args.self.now.count c.args.visit (reverse c.args.self.now.path.items) _ c.in-OnStack.place c.min-low.result s c.requires.next t (mark_read _ _ _ _ t.inside c.index.ensures c.in-OnStack.is) c.min-low.ensures)
