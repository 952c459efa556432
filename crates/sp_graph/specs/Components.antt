-- The strongly connected components of a graph, numbered so that no edge leads to a higher number.
use Rattle.std.specs.Prelude.{◌≡◌, ◌↔◌, ℕ, ◌<◌, ◌≤◌, List, length, slice_index}
use Rattle.sp_graph.specs.Edges.{IsEdge, IsGraph, Path}

-- The list has the number of each node's component: nodes of one component reach one another, and an edge
-- leads to a node of the same component or of one with a lower number.
pub record AreComponents (graph : List (List ℕ)) (numbers : List ℕ) : Type 0 where
  pub each_node : length numbers ≡ length graph
  pub connected : (a b : ℕ) → a < length graph → b < length graph → slice_index numbers a ≡ slice_index numbers b → Path graph a b
  pub falling : (from to : ℕ) → IsEdge graph from to → slice_index numbers to ≤ slice_index numbers from
  -- there are no more numbers than nodes
  pub below : (node : ℕ) → node < length graph → slice_index numbers node < length graph

-- Two nodes have equal numbers exactly where each reaches the other.
abbrev pub EqualNumbersJoin : Type 0
EqualNumbersJoin = (graph : List (List ℕ)) (numbers : List ℕ) → AreComponents graph numbers → (a b : ℕ) → a < length graph → b < length graph → (slice_index numbers a ≡ slice_index numbers b) ↔ (Path graph a b × Path graph b a)

-- an edge leads from the node to one that reaches it
abbrev pub IsOnCycle : List (List ℕ) → ℕ → Type 0
IsOnCycle graph node = (to : ℕ) × IsEdge graph node to × Path graph to node

-- A node is on a cycle exactly where an edge leads from it to a node of its own number.
abbrev pub NumbersTellCycles : Type 0
NumbersTellCycles = (graph : List (List ℕ)) (numbers : List ℕ) → IsGraph graph → AreComponents graph numbers → (node : ℕ) → IsOnCycle graph node ↔ ((to : ℕ) × IsEdge graph node to × (slice_index numbers to ≡ slice_index numbers node))
