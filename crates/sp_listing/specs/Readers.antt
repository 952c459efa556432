-- What the functions that read a listing's lines know of each other.
use Rattle.std.specs.Prelude.{◌≡◌, ◌≢◌, ℕ, List, [], ◌∷◌, ◌++◌, Bool, decimal, if◌then◌else◌, map, codes, All, Option, Some, None}
use Rattle.std.specs.Borrow.{Bor}
use Rattle.sp_netlist.specs.declared.cell.Cell.{Cell}
use Rattle.sp_netlist.specs.Cells.{PlainCell, plain_cell, in_cell, out_cell, done_cell, const_cell, op_cell, not_cell, shift_cell, cast_cell, mux_cell, reg_cell, bank_cell, read_tap, write_tap, dram_cell, load_unit, store_unit}
use Rattle.sp_listing.specs.declared.kind.Kind.{Kind}
use Rattle.sp_listing.specs.declared.kind.Kind.TheVariants.{In, Out, Done, Const, Op, Not, Shift, Cast, Mux, Reg, Bank, Read, Write, Dram, Load, Store}
use Rattle.sp_listing.specs.Text.{cell_words, cell_text}
use Rattle.sp_listing.specs.Reading.{IsFormed}

-- the first word of a line, by its kind
abbrev pub kind_text : Kind → List ℕ
kind_text In = codes "in"
kind_text Out = codes "out"
kind_text Done = codes "done"
kind_text Const = codes "const"
kind_text Op = codes "op"
kind_text Not = codes "not"
kind_text Shift = codes "shift"
kind_text Cast = codes "cast"
kind_text Mux = codes "mux"
kind_text Reg = codes "reg"
kind_text Bank = codes "bank"
kind_text Read = codes "read"
kind_text Write = codes "write"
kind_text Dram = codes "dram"
kind_text Load = codes "load"
kind_text Store = codes "store"

-- the kind of a cell
abbrev pub kind_in : PlainCell → Kind
kind_in (in_cell name net ty) = In
kind_in (out_cell name net ty) = Out
kind_in (done_cell net) = Done
kind_in (const_cell net width word) = Const
kind_in (op_cell net ty op a b) = Op
kind_in (not_cell net ty a) = Not
kind_in (shift_cell net ty side a places) = Shift
kind_in (cast_cell net from to a) = Cast
kind_in (mux_cell net width choice a b) = Mux
kind_in (reg_cell net width first next enable) = Reg
kind_in (bank_cell bank width len) = Bank
kind_in (read_tap net bank enable addr) = Read
kind_in (write_tap bank enable addr word) = Write
kind_in (dram_cell dram name ty dims) = Dram
kind_in (load_unit channel dram ready net request last addr) = Load
kind_in (store_unit channel dram ready request last addr word) = Store

-- texts without where they lie in memory
abbrev pub texts : List (Bor (List ℕ)) → List (List ℕ)
texts = map (λ text. text.now)

-- all but the first
abbrev pub tail_of : List (List ℕ) → List (List ℕ)
tail_of [] = []
tail_of (word ∷ words) = words

-- the parts of a cell's line after its kind
abbrev pub parts_of : PlainCell → List (List ℕ)
parts_of cell = tail_of (cell_words cell)

-- the parts are those of this cell, which is formed and of this kind
pub record IsOf (kind : Kind) (parts : List (List ℕ)) (cell : PlainCell) : Type 0 where
  pub of_kind : kind_in cell ≡ kind
  pub formed : IsFormed cell
  pub same : parts ≡ parts_of cell

-- what parts after a kind are read as: nothing where they are those of no formed cell
abbrev pub ReadsParts : Kind → List (List ℕ) → Option Cell → Type 0
ReadsParts kind parts None = (cell : PlainCell) → kind_in cell ≡ kind → IsFormed cell → parts ≢ parts_of cell
ReadsParts kind parts (Some cell) = IsOf kind parts (plain_cell cell)

-- what a line's words are read as
abbrev pub ReadsWords : List (List ℕ) → Option Cell → Type 0
ReadsWords words None = (cell : PlainCell) → IsFormed cell → words ≢ cell_words cell
ReadsWords words (Some cell) = IsFormed (plain_cell cell) × (words ≡ cell_words (plain_cell cell))

-- a text without that byte
abbrev pub Lacks : ℕ → List ℕ → Type 0
Lacks byte text = All (λ b. b ≢ byte) text

-- the parts of a type's code: its sign letter, and the bits before and after the point
abbrev pub sign_text : Bool → List ℕ
sign_text signed = if signed then codes "s" else codes "u"

abbrev pub counts_text : ℕ → ℕ → List ℕ
counts_text whole frac = decimal whole ++ (codes "." ++ decimal frac)

-- what a line is read as
abbrev pub ReadsLine : List ℕ → Option Cell → Type 0
ReadsLine line None = (cell : PlainCell) → IsFormed cell → line ≢ cell_text cell
ReadsLine line (Some cell) = IsFormed (plain_cell cell) × (line ≡ cell_text (plain_cell cell))
