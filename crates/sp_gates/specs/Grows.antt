-- How a builder's draft grows while a part of a circuit is emitted.
use Rattle.std.specs.Prelude.{◌≡◌, ◌≢◌, ℕ, ◌<◌, Bool, true, false, not, List, ◌++◌, length, count_by, Contains}
use Rattle.sp_netlist.specs.Cells.{PlainCell, const_cell, op_cell, not_cell, shift_cell, cast_cell, mux_cell, reg_cell}
use Rattle.sp_netlist.specs.Rules.{is_bank, is_done}
use Rattle.sp_netlist.specs.Draft.{Draft, IsDraft, Keeps}
use Rattle.sp_netlist.specs.Parts.{NoCell, names_bank}
use Rattle.sp_gates.specs.Nets.{IsOpen}

-- Cells were added at the end: no `done`, and none with a tap on a bank that stood before.
pub record Grows (old new : Draft) : Type 0 where
  pub added : List PlainCell
  pub stands : new.cells ≡ old.cells ++ added
  pub keeps : Keeps old new
  pub draft : IsDraft old → IsDraft new
  pub no_done : NoCell is_done added
  pub apart : (bank : ℕ) → bank < count_by is_bank old.cells → NoCell (names_bank bank) added

-- a gate computes a word, has one, or keeps it; all else is a port, a memory or a tap on one, a channel, or the end
abbrev pub is_gate : PlainCell → Bool
is_gate (const_cell net width word) = true
is_gate (op_cell net ty op a b) = true
is_gate (not_cell net ty a) = true
is_gate (shift_cell net ty side a places) = true
is_gate (cast_cell net from to a) = true
is_gate (mux_cell net width choice a b) = true
is_gate (reg_cell net width first next enable) = true
is_gate cell = false

abbrev pub is_no_gate : PlainCell → Bool
is_no_gate cell = not (is_gate cell)

-- cells were added at the end, all of which are gates
pub record AddsGates (old new : Draft) : Type 0 where
  pub added : List PlainCell
  pub stands : new.cells ≡ old.cells ++ added
  pub all : NoCell is_no_gate added

-- Cells were added at the end. Each net that was promised for them is driven, and of those that were open before,
-- exactly these were driven.
pub record Builds (old new : Draft) (nets : List ℕ) : Type 0 where
  pub grows : Grows old new
  pub still_open : (net : ℕ) → IsOpen old net → (Contains nets net → ⊥) → IsOpen new net
  pub no_other : (net : ℕ) → IsOpen new net → IsOpen old net × (Contains nets net → ⊥)

-- So they were, and all of them are gates.
pub record Fills (old new : Draft) (nets : List ℕ) : Type 0 where
  pub grows : Grows old new
  pub still_open : (net : ℕ) → IsOpen old net → (Contains nets net → ⊥) → IsOpen new net
  pub no_other : (net : ℕ) → IsOpen new net → IsOpen old net × (Contains nets net → ⊥)
  pub gates : AddsGates old new

-- a net was promised, which is the one open net more
pub record Opens (old new : Draft) (net : ℕ) : Type 0 where
  pub grows : Grows old new
  pub fresh : net ≡ length old.promised
  pub still_open : (n : ℕ) → IsOpen old n → IsOpen new n
  pub no_other : (n : ℕ) → IsOpen new n → n ≢ net → IsOpen old n
  pub gates : AddsGates old new
