use Rattle.std.proofs.Common.{take}
use Rattle.sp_graph.specs.Search.{AreNumbered}
use Rattle.sp_graph.proofs.search.give_number.Given as goal

abbrev pub invariant-loop-node : goal.invariant-loop-node
invariant-loop-node l = AreNumbered l.initial.marks l.marks (take l.node-index l.nodes) l.number
