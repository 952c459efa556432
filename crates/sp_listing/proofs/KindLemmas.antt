-- The kinds of cells: what is said of the cells of a kind is said of all that have it.
use Rattle.std.proofs.Common.{◌≡◌, ◌≢◌, ℕ, List, ◌∷◌, Option, Some, None, MatchOption, Bor, get_or, refl, ◌∙◌}
use Rattle.sp_words.specs.declared.types.Ty.{Ty}
use Rattle.sp_netlist.specs.declared.cell.Cell.{Cell}
use Rattle.sp_netlist.specs.declared.cell.CellOp.{CellOp}
use Rattle.sp_netlist.specs.declared.cell.CellShift.{CellShift}
use Rattle.sp_netlist.specs.Cells.{PlainCell, plain_cell, in_cell, out_cell, done_cell, const_cell, op_cell, not_cell, shift_cell, cast_cell, mux_cell, reg_cell, bank_cell, read_tap, write_tap, dram_cell, load_unit, store_unit}
use Rattle.sp_listing.specs.declared.kind.Kind.{Kind}
use Rattle.sp_listing.specs.declared.kind.Kind.TheVariants.{In, Out, Done, Const, Op, Not, Shift, Cast, Mux, Reg, Bank, Read, Write, Dram, Load, Store}
use Rattle.sp_listing.specs.Text.{cell_words}
use Rattle.sp_listing.specs.Reading.{IsFormed}
use Rattle.sp_listing.specs.Readers.{kind_text, kind_in, parts_of, texts, IsOf, ReadsParts, ReadsWords}
use Rattle.sp_listing.proofs.WordLemmas.{blank, word_is}

-- what one kind's reader says, for every cell of its kind
pub reads_kind : (kind : Kind) (parts : List (List ℕ)) (none : Type 0) (r : Option Cell) → (none → (cell : PlainCell) → kind_in cell ≡ kind → IsFormed cell → parts ≢ parts_of cell)
    → MatchOption r none (λ cell. IsOf kind parts (plain_cell cell)) → ReadsParts kind parts r
reads_kind kind parts none None each h = each h
reads_kind kind parts none (Some cell) each h = h

-- what holds of the cells that are made so holds of every cell of their kind
pub of_input : (P : PlainCell → Type 0) → ((name : List ℕ) (net : ℕ) (ty : Ty) → P (in_cell name net ty)) → (cell : PlainCell) → kind_in cell ≡ In → P cell
of_input P made (in_cell name net ty) k = made name net ty
of_input P made cell k = absurd cc

pub of_output : (P : PlainCell → Type 0) → ((name : List ℕ) (net : ℕ) (ty : Ty) → P (out_cell name net ty)) → (cell : PlainCell) → kind_in cell ≡ Out → P cell
of_output P made (out_cell name net ty) k = made name net ty
of_output P made cell k = absurd cc

pub of_done : (P : PlainCell → Type 0) → ((net : ℕ) → P (done_cell net)) → (cell : PlainCell) → kind_in cell ≡ Done → P cell
of_done P made (done_cell net) k = made net
of_done P made cell k = absurd cc

pub of_constant : (P : PlainCell → Type 0) → ((net width word : ℕ) → P (const_cell net width word)) → (cell : PlainCell) → kind_in cell ≡ Const → P cell
of_constant P made (const_cell net width word) k = made net width word
of_constant P made cell k = absurd cc

pub of_operator : (P : PlainCell → Type 0) → ((net : ℕ) (ty : Ty) (op : CellOp) (a b : ℕ) → P (op_cell net ty op a b)) → (cell : PlainCell) → kind_in cell ≡ Op → P cell
of_operator P made (op_cell net ty op a b) k = made net ty op a b
of_operator P made cell k = absurd cc

pub of_not : (P : PlainCell → Type 0) → ((net : ℕ) (ty : Ty) (a : ℕ) → P (not_cell net ty a)) → (cell : PlainCell) → kind_in cell ≡ Not → P cell
of_not P made (not_cell net ty a) k = made net ty a
of_not P made cell k = absurd cc

pub of_shift : (P : PlainCell → Type 0) → ((net : ℕ) (ty : Ty) (side : CellShift) (a places : ℕ) → P (shift_cell net ty side a places)) → (cell : PlainCell) → kind_in cell ≡ Shift → P cell
of_shift P made (shift_cell net ty side a places) k = made net ty side a places
of_shift P made cell k = absurd cc

pub of_cast : (P : PlainCell → Type 0) → ((net : ℕ) (from to : Ty) (a : ℕ) → P (cast_cell net from to a)) → (cell : PlainCell) → kind_in cell ≡ Cast → P cell
of_cast P made (cast_cell net from to a) k = made net from to a
of_cast P made cell k = absurd cc

pub of_mux : (P : PlainCell → Type 0) → ((net width choice a b : ℕ) → P (mux_cell net width choice a b)) → (cell : PlainCell) → kind_in cell ≡ Mux → P cell
of_mux P made (mux_cell net width choice a b) k = made net width choice a b
of_mux P made cell k = absurd cc

pub of_register : (P : PlainCell → Type 0) → ((net width first next enable : ℕ) → P (reg_cell net width first next enable)) → (cell : PlainCell) → kind_in cell ≡ Reg → P cell
of_register P made (reg_cell net width first next enable) k = made net width first next enable
of_register P made cell k = absurd cc

pub of_bank : (P : PlainCell → Type 0) → ((bank width len : ℕ) → P (bank_cell bank width len)) → (cell : PlainCell) → kind_in cell ≡ Bank → P cell
of_bank P made (bank_cell bank width len) k = made bank width len
of_bank P made cell k = absurd cc

pub of_read_tap : (P : PlainCell → Type 0) → ((net bank enable addr : ℕ) → P (read_tap net bank enable addr)) → (cell : PlainCell) → kind_in cell ≡ Read → P cell
of_read_tap P made (read_tap net bank enable addr) k = made net bank enable addr
of_read_tap P made cell k = absurd cc

pub of_write_tap : (P : PlainCell → Type 0) → ((bank enable addr word : ℕ) → P (write_tap bank enable addr word)) → (cell : PlainCell) → kind_in cell ≡ Write → P cell
of_write_tap P made (write_tap bank enable addr word) k = made bank enable addr word
of_write_tap P made cell k = absurd cc

pub of_memory : (P : PlainCell → Type 0) → ((dram : ℕ) (name : List ℕ) (ty : Ty) (dims : List ℕ) → P (dram_cell dram name ty dims)) → (cell : PlainCell) → kind_in cell ≡ Dram → P cell
of_memory P made (dram_cell dram name ty dims) k = made dram name ty dims
of_memory P made cell k = absurd cc

pub of_load : (P : PlainCell → Type 0) → ((channel dram ready net request last addr : ℕ) → P (load_unit channel dram ready net request last addr)) → (cell : PlainCell) → kind_in cell ≡ Load → P cell
of_load P made (load_unit channel dram ready net request last addr) k = made channel dram ready net request last addr
of_load P made cell k = absurd cc

pub of_store : (P : PlainCell → Type 0) → ((channel dram ready request last addr word : ℕ) → P (store_unit channel dram ready request last addr word)) → (cell : PlainCell) → kind_in cell ≡ Store → P cell
of_store P made (store_unit channel dram ready request last addr word) k = made channel dram ready request last addr word
of_store P made cell k = absurd cc

-- a cell's words begin with that of its kind
pub words_begin : (cell : PlainCell) → cell_words cell ≡ kind_text (kind_in cell) ∷ parts_of cell
words_begin (in_cell name net ty) = refl
words_begin (out_cell name net ty) = refl
words_begin (done_cell net) = refl
words_begin (const_cell net width word) = refl
words_begin (op_cell net ty op a b) = refl
words_begin (not_cell net ty a) = refl
words_begin (shift_cell net ty side a places) = refl
words_begin (cast_cell net from to a) = refl
words_begin (mux_cell net width choice a b) = refl
words_begin (reg_cell net width first next enable) = refl
words_begin (bank_cell bank width len) = refl
words_begin (read_tap net bank enable addr) = refl
words_begin (write_tap bank enable addr word) = refl
words_begin (dram_cell dram name ty dims) = refl
words_begin (load_unit channel dram ready net request last addr) = refl
words_begin (store_unit channel dram ready request last addr word) = refl

-- words that begin with the word of no kind are those of no cell
pub no_kind : (words : List (Bor (List ℕ))) → ((kind : Kind) → (get_or words 0 blank).now ≢ kind_text kind) → ReadsWords (texts words) None
no_kind words none = λ cell f same. none (kind_in cell) (word_is words (kind_text (kind_in cell) ∷ parts_of cell) 0 (same ∙ words_begin cell))
