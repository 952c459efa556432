use Rattle.std.proofs.Common.{◌≢◌, reverse}
use Rattle.sp_graph.specs.declared.search.Mark.TheVariants.{Unseen}
use Rattle.sp_graph.specs.Search.{IsSearch, SeenStays, mark_of, work_left}
use Rattle.sp_graph.proofs.search.Search.visit_from.Given as goal

abbrev pub invariant-loop-visit : goal.invariant-loop-visit
invariant-loop-visit l = record {
  search : IsSearch l.graph l.self.marks.items l.self.stack.items (reverse l.self.path.items) l.self.count;
  seen : SeenStays l.fn.self.marks.items l.self.marks.items;
  root : mark_of l.self.marks.items l.root ≢ Unseen;
}

abbrev pub decreases-loop-visit : goal.decreases-loop-visit
decreases-loop-visit l = work_left l.graph l.self.marks.items (reverse l.self.path.items)
