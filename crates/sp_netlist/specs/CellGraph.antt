-- The graph of the cells that compute. Its nodes are the places of the cells in their list, and its edges lead
-- from a cell to those that compute its operands.
use Rattle.std.specs.Prelude.{◌≡◌, ◌≢◌, ℕ, ◌==◌, ◌++◌, List, [], ◌∷◌, length, slice_get, slice_index, unwrap_or, option_map, option_and_then, Option, Some, None, Contains, ◌↔◌, if◌then◌else◌}
use Rattle.sp_graph.specs.Edges.{targets_of, IsEdge}
use Rattle.sp_netlist.specs.Cells.{PlainCell, op_cell, not_cell, shift_cell, cast_cell, mux_cell}

-- the net that a cell computes, and the nets that it computes it from
abbrev pub computed_net : PlainCell → Option ℕ
computed_net (op_cell net ty op a b) = Some net
computed_net (not_cell net ty a) = Some net
computed_net (shift_cell net ty side a places) = Some net
computed_net (cast_cell net from to a) = Some net
computed_net (mux_cell net width choice a b) = Some net
computed_net cell = None

abbrev pub operands : PlainCell → List ℕ
operands (op_cell net ty op a b) = a ∷ b ∷ []
operands (not_cell net ty a) = a ∷ []
operands (shift_cell net ty side a places) = a ∷ []
operands (cast_cell net from to a) = a ∷ []
operands (mux_cell net width choice a b) = choice ∷ a ∷ b ∷ []
operands cell = []

-- those of the cell at a place
abbrev pub computed_at : List PlainCell → ℕ → Option ℕ
computed_at cells place = option_and_then computed_net (slice_get cells place)

abbrev pub operands_at : List PlainCell → ℕ → List ℕ
operands_at cells place = unwrap_or (option_map operands (slice_get cells place)) []

-- no net is computed at two places
abbrev pub ComputedOnce : List PlainCell → Type 0
ComputedOnce cells = (i j net : ℕ) → computed_at cells i ≡ Some net → computed_at cells j ≡ Some net → i ≡ j

-- a map from each computed net to a place where it is computed
pub record ArePlaces (cells : List PlainCell) (place_of : ℕ → Option ℕ) : Type 0 where
  pub found : (net place : ℕ) → place_of net ≡ Some place → computed_at cells place ≡ Some net
  pub kept : (net place : ℕ) → computed_at cells place ≡ Some net → (other : ℕ) × (place_of net ≡ Some other)

-- such a map once a cell stands at one more place
abbrev pub place_with : Option ℕ → ℕ → (ℕ → Option ℕ) → ℕ → Option ℕ
place_with None place place_of net = place_of net
place_with (Some computed) place place_of net = if computed == net then Some place else place_of net

-- an edge leads from a cell to those that compute its operands
pub record IsCellGraph (cells : List PlainCell) (graph : List (List ℕ)) : Type 0 where
  pub each_cell : length graph ≡ length cells
  pub edges : (from to : ℕ) → IsEdge graph from to ↔ ((net : ℕ) × Contains (operands_at cells from) net × (computed_at cells to ≡ Some net))

-- a graph with more targets of one node
pub record HasTargets (old new : List (List ℕ)) (from : ℕ) (targets : List ℕ) : Type 0 where
  pub same_nodes : length new ≡ length old
  pub own : targets_of new from ≡ targets_of old from ++ targets
  pub others : (node : ℕ) → node ≢ from → targets_of new node ≡ targets_of old node

-- an edge leads from a node to one of its own component
abbrev pub StaysAt : List (List ℕ) → List ℕ → ℕ → Type 0
StaysAt graph numbers node = (target : ℕ) × IsEdge graph node target × (slice_index numbers target ≡ slice_index numbers node)

-- the net is computed at such a node
abbrev pub IsComputedOnLoop : List PlainCell → List (List ℕ) → List ℕ → ℕ → Type 0
IsComputedOnLoop cells graph numbers net = (place : ℕ) × (computed_at cells place ≡ Some net) × StaysAt graph numbers place
