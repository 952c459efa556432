-- Orders in which the nets that are computed can be computed.
use Rattle.std.specs.Prelude.{◌≡◌, ℕ, ◌<◌, IsTrue, List, ◌∷◌, ◌++◌, ◌==◌, ◌≤◌, length, map, slice_index_or, count_by, All, Contains}
use Rattle.sp_netlist.specs.Cells.{PlainCell, done_cell}
use Rattle.sp_netlist.specs.Rules.{drives, reads, is_computed}

-- a cell that computes stands at the place
abbrev pub IsComputing : List PlainCell → ℕ → Type 0
IsComputing cells at = (at < length cells) × IsTrue (is_computed (slice_index_or cells at (done_cell 0)))

-- The place of each cell that computes, once, after the places of those that compute a net which it reads.
pub record IsOrder (cells : List PlainCell) (order : List ℕ) : Type 0 where
  pub computing : All (IsComputing cells) order
  pub complete : (at : ℕ) → IsComputing cells at → Contains order at
  pub number : length order ≡ count_by is_computed cells
  pub once : (at : ℕ) → count_by (λ other. other == at) order ≤ 1
  pub operands_first : (before : List ℕ) (at : ℕ) (after : List ℕ) → order ≡ before ++ at ∷ after
      → (net driver : ℕ) → Contains (map (λ p. p.0) (reads cells (slice_index_or cells at (done_cell 0)))) net
      → IsComputing cells driver → Contains (map (λ p. p.0) (drives cells (slice_index_or cells driver (done_cell 0)))) net
      → Contains before driver
