-- The listing of a netlist: one line a cell, in the netlist's order.
use Rattle.std.specs.Prelude.{ℕ, List, [], ◌∷◌, ◌++◌, map, flat_map, codes, decimal, if◌then◌else◌}
use Rattle.sp_words.specs.declared.types.Ty.{Ty}
use Rattle.sp_words.specs.declared.types.Ty.TheVariants.{Fix, Bit}
use Rattle.sp_words.specs.Types.{fix_signed, fix_whole, fix_frac}
use Rattle.sp_netlist.specs.declared.cell.CellOp.{CellOp}
use Rattle.sp_netlist.specs.declared.cell.CellOp.TheVariants.{Add, Sub, Mul, Div, Rem, And, Or, Xor, Min, Max, Lt, Eq}
use Rattle.sp_netlist.specs.declared.cell.CellShift.{CellShift}
use Rattle.sp_netlist.specs.declared.cell.CellShift.TheVariants.{Shl, Shr}
use Rattle.sp_netlist.specs.Cells.{PlainCell, in_cell, out_cell, done_cell, const_cell, op_cell, not_cell, shift_cell, cast_cell, mux_cell, reg_cell, bank_cell, read_tap, write_tap, dram_cell, load_unit, store_unit}

-- the code of a type: `s` or `u`, the bits before the point, a point, the bits after it; or `bit`
abbrev pub type_text : Ty → List ℕ
type_text (Fix t) = (if fix_signed t then codes "s" else codes "u") ++ (decimal (fix_whole t) ++ (codes "." ++ decimal (fix_frac t)))
type_text Bit = codes "bit"

abbrev pub op_text : CellOp → List ℕ
op_text Add = codes "add"
op_text Sub = codes "sub"
op_text Mul = codes "mul"
op_text Div = codes "div"
op_text Rem = codes "rem"
op_text And = codes "and"
op_text Or = codes "or"
op_text Xor = codes "xor"
op_text Min = codes "min"
op_text Max = codes "max"
op_text Lt = codes "lt"
op_text Eq = codes "eq"

abbrev pub shift_text : CellShift → List ℕ
shift_text Shl = codes "shl"
shift_text Shr = codes "shr"

-- the words of a cell's line: its kind, then its parts, numbers in decimal
abbrev pub cell_words : PlainCell → List (List ℕ)
cell_words (in_cell name net ty) = codes "in" ∷ name ∷ decimal net ∷ type_text ty ∷ []
cell_words (out_cell name net ty) = codes "out" ∷ name ∷ decimal net ∷ type_text ty ∷ []
cell_words (done_cell net) = codes "done" ∷ decimal net ∷ []
cell_words (const_cell net width word) = codes "const" ∷ decimal net ∷ decimal width ∷ decimal word ∷ []
cell_words (op_cell net ty op a b) = codes "op" ∷ decimal net ∷ type_text ty ∷ op_text op ∷ decimal a ∷ decimal b ∷ []
cell_words (not_cell net ty a) = codes "not" ∷ decimal net ∷ type_text ty ∷ decimal a ∷ []
cell_words (shift_cell net ty side a places) = codes "shift" ∷ decimal net ∷ type_text ty ∷ shift_text side ∷ decimal a ∷ decimal places ∷ []
cell_words (cast_cell net from to a) = codes "cast" ∷ decimal net ∷ type_text from ∷ type_text to ∷ decimal a ∷ []
cell_words (mux_cell net width choice a b) = codes "mux" ∷ map decimal (net ∷ width ∷ choice ∷ a ∷ b ∷ [])
cell_words (reg_cell net width first next enable) = codes "reg" ∷ map decimal (net ∷ width ∷ first ∷ next ∷ enable ∷ [])
cell_words (bank_cell bank width len) = codes "bank" ∷ map decimal (bank ∷ width ∷ len ∷ [])
cell_words (read_tap net bank enable addr) = codes "read" ∷ map decimal (net ∷ bank ∷ enable ∷ addr ∷ [])
cell_words (write_tap bank enable addr word) = codes "write" ∷ map decimal (bank ∷ enable ∷ addr ∷ word ∷ [])
cell_words (dram_cell dram name ty dims) = codes "dram" ∷ decimal dram ∷ name ∷ type_text ty ∷ map decimal dims
cell_words (load_unit channel dram ready net request last addr) =
    codes "load" ∷ map decimal (channel ∷ dram ∷ ready ∷ net ∷ request ∷ last ∷ addr ∷ [])
cell_words (store_unit channel dram ready request last addr word) =
    codes "store" ∷ map decimal (channel ∷ dram ∷ ready ∷ request ∷ last ∷ addr ∷ word ∷ [])

-- each word with a blank before it
abbrev pub spaced : List (List ℕ) → List ℕ
spaced = flat_map (λ word. 32 ∷ word)

-- the line of a cell: its words, separated by one blank
abbrev pub joined : List (List ℕ) → List ℕ
joined [] = []
joined (word ∷ words) = word ++ spaced words

abbrev pub cell_text : PlainCell → List ℕ
cell_text cell = joined (cell_words cell)

-- each line ends with one line end
abbrev pub cell_line : PlainCell → List ℕ
cell_line cell = cell_text cell ++ (10 ∷ [])

-- the listing: a first line that names the format, then the cells
abbrev pub listing_text : List PlainCell → List ℕ
listing_text cells = codes "netlist 1" ++ (10 ∷ flat_map cell_line cells)
