-- A cell without where its name and its dimensions lie in memory. The fields stand in the order of a
-- listing's line: names are lists of bytes, nets, banks, DRAMs and channels are numbers.
use Rattle.std.specs.Prelude.{ℕ, List, string_bytes, map}
use Rattle.sp_words.specs.declared.types.Ty.{Ty}
use Rattle.sp_netlist.specs.declared.cell.Cell.{Cell}
use Rattle.sp_netlist.specs.declared.cell.Cell.TheVariants.{In, Out, Done, Const, Op, Not, Shift, Cast, Mux, Hold, Bank, ReadTap, WriteTap, Dram, LoadUnit, StoreUnit}
use Rattle.sp_netlist.specs.declared.cell.CellOp.{CellOp}
use Rattle.sp_netlist.specs.declared.cell.CellShift.{CellShift}

pub data PlainCell : Type 0 where
  in_cell : (name : List ℕ) (net : ℕ) (ty : Ty) → PlainCell
  out_cell : (name : List ℕ) (net : ℕ) (ty : Ty) → PlainCell
  done_cell : (net : ℕ) → PlainCell
  const_cell : (net width word : ℕ) → PlainCell
  op_cell : (net : ℕ) (ty : Ty) (op : CellOp) (a b : ℕ) → PlainCell
  not_cell : (net : ℕ) (ty : Ty) (a : ℕ) → PlainCell
  shift_cell : (net : ℕ) (ty : Ty) (side : CellShift) (a places : ℕ) → PlainCell
  cast_cell : (net : ℕ) (from to : Ty) (a : ℕ) → PlainCell
  mux_cell : (net width choice a b : ℕ) → PlainCell
  reg_cell : (net width first next enable : ℕ) → PlainCell
  bank_cell : (bank width len : ℕ) → PlainCell
  read_tap : (net bank enable addr : ℕ) → PlainCell
  write_tap : (bank enable addr word : ℕ) → PlainCell
  dram_cell : (dram : ℕ) (name : List ℕ) (ty : Ty) (dims : List ℕ) → PlainCell
  load_unit : (channel dram ready net request last addr : ℕ) → PlainCell
  store_unit : (channel dram ready request last addr word : ℕ) → PlainCell

-- the cell as its line says it
abbrev pub plain_cell : Cell → PlainCell
plain_cell (In name net ty) = in_cell (string_bytes name) net ty
plain_cell (Out name net ty) = out_cell (string_bytes name) net ty
plain_cell (Done net) = done_cell net
plain_cell (Const net width word) = const_cell net width word
plain_cell (Op net ty op a b) = op_cell net ty op a b
plain_cell (Not net ty a) = not_cell net ty a
plain_cell (Shift net ty side a places) = shift_cell net ty side a places
plain_cell (Cast net from to a) = cast_cell net from to a
plain_cell (Mux net width choice a b) = mux_cell net width choice a b
plain_cell (Hold net width first next enable) = reg_cell net width first next enable
plain_cell (Bank bank width len) = bank_cell bank width len
plain_cell (ReadTap net bank enable addr) = read_tap net bank enable addr
plain_cell (WriteTap bank enable addr word) = write_tap bank enable addr word
plain_cell (Dram dram name ty dims) = dram_cell dram (string_bytes name) ty dims.items
plain_cell (LoadUnit channel dram ready net request last addr) = load_unit channel dram ready net request last addr
plain_cell (StoreUnit channel dram ready request last addr word) = store_unit channel dram ready request last addr word

abbrev pub plain_cells : List Cell → List PlainCell
plain_cells = map plain_cell
