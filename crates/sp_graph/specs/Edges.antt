-- A directed graph as the list of each node's targets: the nodes that its edges lead to.
use Rattle.std.specs.Prelude.{ℕ, ◌<◌, List, [], length, unwrap_or, slice_get, Contains}

-- the targets of a node
abbrev pub targets_of : List (List ℕ) → ℕ → List ℕ
targets_of graph node = unwrap_or (slice_get graph node) []

-- an edge leads from one node to another
abbrev pub IsEdge : List (List ℕ) → ℕ → ℕ → Type 0
IsEdge graph from to = Contains (targets_of graph from) to

-- each edge leads to a node
pub record IsGraph (graph : List (List ℕ)) : Type 0 where
  pub leads_to_node : (from to : ℕ) → IsEdge graph from to → to < length graph

-- edges, or none, lead from one node to another
pub data Path (graph : List (List ℕ)) : ℕ → ℕ → Type 0 where
  no_edge : {node : ℕ} → Path graph node node
  one_edge_more : {from via to : ℕ} → IsEdge graph from via → Path graph via to → Path graph from to
