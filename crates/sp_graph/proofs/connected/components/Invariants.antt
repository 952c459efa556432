use Rattle.std.proofs.Common.{◌≡◌, ◌≢◌, ◌<◌, ℕ, []}
use Rattle.sp_graph.specs.declared.search.Mark.TheVariants.{Unseen}
use Rattle.sp_graph.specs.Search.{IsSearch, mark_of}
use Rattle.sp_graph.proofs.connected.components.Given as goal

abbrev pub invariant-loop-root : goal.invariant-loop-root
invariant-loop-root l = record {
  search : IsSearch l.graph l.search.marks.items l.search.stack.items [] l.search.count;
  path : l.search.path.items ≡ [];
  seen : (node : ℕ) → node < l.root → mark_of l.search.marks.items node ≢ Unseen;
}
