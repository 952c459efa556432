-- The cells that compute, evaluated one after the other over a row of words.
use Rattle.std.specs.Prelude.{ℕ, ◌<◌, ◌^◌, ◌==◌, if◌then◌else◌, List, slice_index_or, Option, Some, None, Contains}
use Rattle.std.specs.List.{fold}
use Rattle.sp_words.specs.Types.{width_of}
use Rattle.sp_words.specs.Words.{IsWord, word_not, word_cast}
use Rattle.sp_netlist.specs.Cells.{PlainCell, done_cell, op_cell, not_cell, shift_cell, cast_cell, mux_cell}
use Rattle.sp_netlist.specs.Rules.{op_width, driven_nets}
use Rattle.sp_netlist.specs.Signals.{op_word, shift_word}
use Rattle.sp_sim.specs.Rows.{word_of, with_word, nets_of}

-- the cell at a place
unfoldable pub cell_at : List PlainCell → ℕ → PlainCell
cell_at cells at = slice_index_or cells at (done_cell 0)

-- the net that a cell computes, and its word at the words of the other nets
abbrev pub computed_word : (ℕ → ℕ) → PlainCell → Option (ℕ × ℕ)
computed_word w (op_cell net ty op a b) = Some (net, op_word op ty (w a) (w b))
computed_word w (not_cell net ty a) = Some (net, word_not ty (w a))
computed_word w (shift_cell net ty side a places) = Some (net, shift_word side ty (w a) places)
computed_word w (cast_cell net from to a) = Some (net, word_cast from to (w a))
computed_word w (mux_cell net width choice a b) = Some (net, if w choice == 1 then w a else w b)
computed_word w cell = None

-- its width
abbrev pub computed_width : PlainCell → ℕ
computed_width (op_cell net ty op a b) = op_width ty op
computed_width (not_cell net ty a) = width_of ty
computed_width (shift_cell net ty side a places) = width_of ty
computed_width (cast_cell net from to a) = width_of to
computed_width (mux_cell net width choice a b) = width
computed_width cell = 0

-- its operands have their widths
abbrev pub OperandsFit : (ℕ → ℕ) → PlainCell → Type 0
OperandsFit w (op_cell net ty op a b) = IsWord ty (w a) × IsWord ty (w b)
OperandsFit w (not_cell net ty a) = IsWord ty (w a)
OperandsFit w (shift_cell net ty side a places) = IsWord ty (w a) × (places < 64)
OperandsFit w (cast_cell net from to a) = IsWord from (w a)
OperandsFit w (mux_cell net width choice a b) = (w a < 2 ^ width) × (w b < 2 ^ width)
OperandsFit w cell = Unit {0}

-- a row has the nets that the cells drive, each with a word of its width
pub record IsRow (cells : List PlainCell) (row : List (ℕ × ℕ)) : Type 0 where
  pub covers : (net width : ℕ) → Contains (driven_nets cells) (net, width) → Contains (nets_of row) net
  pub only : (net : ℕ) → Contains (nets_of row) net → (width : ℕ) × Contains (driven_nets cells) (net, width)
  pub fits : (net width : ℕ) → Contains (driven_nets cells) (net, width) → word_of row net < 2 ^ width

-- the row with the word of a cell's net
unfoldable pub put_some : List (ℕ × ℕ) → Option (ℕ × ℕ) → List (ℕ × ℕ)
put_some row None = row
put_some row (Some p) = with_word row p.0 p.1

-- the row after one cell
unfoldable pub settle_cell : List (ℕ × ℕ) → PlainCell → List (ℕ × ℕ)
settle_cell row cell = put_some row (computed_word (word_of row) cell)

unfoldable pub settle_one : List PlainCell → List (ℕ × ℕ) → ℕ → List (ℕ × ℕ)
settle_one cells row at = put_some row (computed_word (word_of row) (cell_at cells at))

abbrev pub settled : List PlainCell → List (ℕ × ℕ) → List ℕ → List (ℕ × ℕ)
settled cells = fold (settle_one cells)
