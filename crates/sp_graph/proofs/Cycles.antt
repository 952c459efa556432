-- What the numbers of components tell.
use Rattle.std.proofs.Common.{ℕ, ◌≤◌, List, sym, arith}
use Rattle.std.specs.Prelude.{slice_index}
use Rattle.sp_graph.specs.Edges.{Path}
use Rattle.sp_graph.specs.Edges.Path.{no_edge, one_edge_more}
use Rattle.sp_graph.specs.Components.{AreComponents, EqualNumbersJoin, NumbersTellCycles}
use Rattle.sp_graph.proofs.Finished.{edge_from_node}

-- numbers fall along a path
falls_along : (graph : List (List ℕ)) (numbers : List ℕ) → AreComponents graph numbers → {a b : ℕ} → Path graph a b → slice_index numbers b ≤ slice_index numbers a
falls_along graph numbers h no_edge = omega arith
falls_along graph numbers h (one_edge_more {from = from} {via = via} edge path) = omega (arith, falls_along graph numbers h path, h.falling from via edge)

pub equal_numbers_join : EqualNumbersJoin
equal_numbers_join graph numbers h a b in_a in_b = (
  λ e. (h.connected a b in_a in_b e, h.connected b a in_b in_a (sym e)),
  λ paths. omega (arith, falls_along graph numbers h paths.0, falls_along graph numbers h paths.1),
)

pub numbers_tell_cycles : NumbersTellCycles
numbers_tell_cycles graph numbers good h node = (
  λ cycle. (cycle.0, cycle.1, omega (arith, falls_along graph numbers h cycle.2, h.falling node cycle.0 cycle.1)),
  λ same. (same.0, same.1, h.connected same.0 node (good.leads_to_node node same.0 same.1) (edge_from_node graph node same.0 same.1) same.2),
)
