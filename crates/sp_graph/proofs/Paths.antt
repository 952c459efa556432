-- Paths of a graph.
use Rattle.std.proofs.Common.{ℕ, List}
use Rattle.sp_graph.specs.Edges.{Path}
use Rattle.sp_graph.specs.Edges.Path.{no_edge, one_edge_more}

pub path_along : {graph : List (List ℕ)} {a b c : ℕ} → Path graph a b → Path graph b c → Path graph a c
path_along no_edge q = q
path_along (one_edge_more e p) q = one_edge_more e (path_along p q)
