-- Which cells a listing's lines may be, and the first line that breaks a rule.
use Rattle.std.specs.Prelude.{◌≡◌, ◌≢◌, ℕ, ◌+◌, ◌^◌, ◌<◌, ◌≤◌, List, [], ◌∷◌, ◌++◌, codes, length, map, filter_map, count_by, All, Contains, ◌==◌}
use Rattle.std.specs.List.{slice_split}
use Rattle.sp_words.specs.declared.types.Ty.{Ty}
use Rattle.sp_words.specs.Names.{IsName}
use Rattle.sp_netlist.specs.Cells.{PlainCell, in_cell, out_cell, done_cell, const_cell, op_cell, not_cell, shift_cell, cast_cell, mux_cell, reg_cell, bank_cell, read_tap, write_tap, dram_cell, load_unit, store_unit}
use Rattle.sp_netlist.specs.Rules.{is_done, is_bank, is_dram, is_unit, in_name, out_name, dram_name, IsWidth, IsLength}
use Rattle.sp_netlist.specs.Refusals.{AreLines}
use Rattle.sp_listing.specs.Text.{cell_text, listing_text}

-- numbers of nets, banks and channels; DRAMs are numbered in 32 bits
abbrev pub IsNumber : ℕ → Type 0
IsNumber n = n < 2 ^ 64

abbrev pub IsDramNumber : ℕ → Type 0
IsDramNumber n = n < 2 ^ 32

-- What a cell obeys whatever stands beside it: its names are names, and its numbers are in their ranges.
abbrev pub IsFormed : PlainCell → Type 0
IsFormed (in_cell name net ty) = IsName name × IsNumber net
IsFormed (out_cell name net ty) = IsName name × IsNumber net
IsFormed (done_cell net) = IsNumber net
IsFormed (const_cell net width word) = IsNumber net × IsWidth width × (word < 2 ^ width)
IsFormed (op_cell net ty op a b) = IsNumber net × IsNumber a × IsNumber b
IsFormed (not_cell net ty a) = IsNumber net × IsNumber a
IsFormed (shift_cell net ty side a places) = IsNumber net × IsNumber a × (places < 64)
IsFormed (cast_cell net from to a) = IsNumber net × IsNumber a
IsFormed (mux_cell net width choice a b) = IsNumber net × IsWidth width × IsNumber choice × IsNumber a × IsNumber b
IsFormed (reg_cell net width first next enable) = IsNumber net × IsWidth width × (first < 2 ^ width) × IsNumber next × IsNumber enable
IsFormed (bank_cell bank width len) = IsNumber bank × IsWidth width × IsLength len
IsFormed (read_tap net bank enable addr) = IsNumber net × IsNumber bank × IsNumber enable × IsNumber addr
IsFormed (write_tap bank enable addr word) = IsNumber bank × IsNumber enable × IsNumber addr × IsNumber word
IsFormed (dram_cell dram name ty dims) = IsDramNumber dram × IsName name × (1 ≤ length dims) × (length dims ≤ 3) × All IsLength dims
IsFormed (load_unit channel dram ready net request last addr) =
    IsNumber channel × IsDramNumber dram × IsNumber ready × IsNumber net × IsNumber request × IsNumber last × IsNumber addr
IsFormed (store_unit channel dram ready request last addr word) =
    IsNumber channel × IsDramNumber dram × IsNumber ready × IsNumber request × IsNumber last × IsNumber addr × IsNumber word

-- What a cell obeys after those before it: it has the next number of its kind, its name is new in its kind, and
-- no second done comes.
abbrev pub Follows : List PlainCell → PlainCell → Type 0
Follows before (in_cell name net ty) = Contains (filter_map in_name before) name → ⊥
Follows before (out_cell name net ty) = Contains (filter_map out_name before) name → ⊥
Follows before (done_cell net) = count_by is_done before ≡ 0
Follows before (bank_cell bank width len) = bank ≡ count_by is_bank before
Follows before (dram_cell dram name ty dims) = (dram ≡ count_by is_dram before) × (Contains (filter_map dram_name before) name → ⊥)
Follows before (load_unit channel dram ready net request last addr) = channel ≡ count_by is_unit before
Follows before (store_unit channel dram ready request last addr word) = channel ≡ count_by is_unit before
Follows before cell = Unit {0}

-- A bank or a DRAM has a line: some line of the text, wherever it stands, is that of a formed cell with its number.
abbrev pub HasBank : List (List ℕ) → ℕ → Type 0
HasBank lines bank = (width : ℕ) × (len : ℕ) × IsFormed (bank_cell bank width len) × Contains lines (cell_text (bank_cell bank width len))

abbrev pub HasDram : List (List ℕ) → ℕ → Type 0
HasDram lines dram =
    (name : List ℕ) × (ty : Ty) × (dims : List ℕ) × IsFormed (dram_cell dram name ty dims) × Contains lines (cell_text (dram_cell dram name ty dims))

-- the bank or the DRAM that a cell names has one
abbrev pub NamesLines : List (List ℕ) → PlainCell → Type 0
NamesLines lines (read_tap net bank enable addr) = HasBank lines bank
NamesLines lines (write_tap bank enable addr word) = HasBank lines bank
NamesLines lines (load_unit channel dram ready net request last addr) = HasDram lines dram
NamesLines lines (store_unit channel dram ready request last addr word) = HasDram lines dram
NamesLines lines cell = Unit {0}

-- The cell may stand after these in a text of these lines.
pub record MayStand (lines : List (List ℕ)) (before : List PlainCell) (cell : PlainCell) : Type 0 where
  pub formed : IsFormed cell
  pub follows : Follows before cell
  pub named : NamesLines lines cell

pub record AllStand (lines : List (List ℕ)) (cells : List PlainCell) : Type 0 where
  pub each : (before : List PlainCell) (cell : PlainCell) (after : List PlainCell) → cells ≡ before ++ cell ∷ after → MayStand lines before cell

-- What stands between the line ends of a text, and after the last one: so a text that ends with a line end has an
-- empty piece last.
abbrev pub pieces : List ℕ → List (List ℕ)
pieces = slice_split (λ byte. byte == 10)

-- the first line
abbrev pub heading : List ℕ
heading = codes "netlist 1"

-- After the lines of these cells the rest of a text's pieces breaks a rule at once: the last line had no line end;
-- or the text is over and has no done; or no cell that may stand has the next line.
abbrev pub StopsAt : List (List ℕ) → List PlainCell → List (List ℕ) → Type 0
StopsAt lines cells [] = Unit {0}
StopsAt lines cells ([] ∷ []) = count_by is_done cells ≡ 0
StopsAt lines cells (line ∷ rest) = (cell : PlainCell) → MayStand lines cells cell → line ≢ cell_text cell

-- A text of these lines breaks the rules at this line, counted from 1: at the first if that isn't the heading;
-- else after the heading and the lines of cells that may stand.
pub data BreaksAt (lines : List (List ℕ)) : ℕ → Type 0 where
  at_heading : (line : List ℕ) (rest : List (List ℕ)) → lines ≡ line ∷ rest → line ≢ heading → BreaksAt lines 1
  at_line : (cells : List PlainCell) (rest : List (List ℕ)) → lines ≡ heading ∷ (map cell_text cells ++ rest) → AllStand lines cells → StopsAt lines cells rest
      → BreaksAt lines (length cells + 2)

-- The text is the listing of these cells, each of which is formed and obeys the rules on lines.
pub record IsListing (text : List ℕ) (cells : List PlainCell) : Type 0 where
  pub formed : All IsFormed cells
  pub right : AreLines cells
  pub same : text ≡ listing_text cells
