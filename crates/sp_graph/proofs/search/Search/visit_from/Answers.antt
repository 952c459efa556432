use Rattle.std.proofs.Common.{◌<◌, length, subst, sym}
use Rattle.sp_graph.proofs.Steps.{mark_read, after_enter_root, seen_after_enter_root, root_seen}
use Rattle.sp_graph.proofs.search.Search.visit_from.Goals as goal

pub loop-visit-init : goal.loop-visit-init
loop-visit-init c =
    let inside : c.args.root < length c.args.self.now.marks.items = subst (λ n. c.args.root < n) (sym c.requires.search.marked.each_node) c.requires.root
    in let fresh = mark_read _ _ _ _ inside c.index.ensures c.in-Unseen.is
    in record {
      search = after_enter_root c.args.graph.now _ _ _ _ c.args.self.now.path.items _ _ _ c.args.root c.in_ok-enter.ensures.marks inside fresh c.in_ok-enter.ensures.stack c.in_ok-enter.ensures.path c.in_ok-enter.ensures.count c.requires.path c.requires.search;
      seen = seen_after_enter_root c.args.graph.now c.args.self.now.marks.items c.enter.new.self.marks.items c.args.self.now.stack.items c.enter.new.self.stack.items c.args.self.now.path.items c.enter.new.self.path.items c.args.self.now.count c.enter.new.self.count c.args.root c.in_ok-enter.ensures.marks inside fresh;
      root = root_seen c.args.graph.now c.args.self.now.marks.items c.enter.new.self.marks.items c.args.self.now.stack.items c.enter.new.self.stack.items c.args.self.now.path.items c.enter.new.self.path.items c.args.self.now.count c.enter.new.self.count c.args.root c.in_ok-enter.ensures.marks inside fresh;
    }
