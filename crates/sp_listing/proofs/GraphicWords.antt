-- The words of a formed cell's line have no blank and no line end.
use Rattle.std.proofs.Common.{ℕ, List, [], ◌∷◌, ◌++◌, All, Bool, true, false, codes, decimal, map, refl}
use Rattle.std.proofs.lemmas.List.Elements.{All-nil, All-cons, All-head, All-tail, All-append}
use Rattle.sp_netlist.specs.Rules.{IsLength}
use Rattle.sp_words.specs.declared.types.Ty.TheVariants.{Fix, Bit}
use Rattle.sp_words.specs.Types.{fix_signed, fix_whole, fix_frac}
use Rattle.sp_netlist.specs.declared.cell.CellOp.TheVariants.{Add, Sub, Mul, Div, Rem, And, Or, Xor, Min, Max, Lt, Eq}
use Rattle.sp_netlist.specs.declared.cell.CellShift.TheVariants.{Shl, Shr}
use Rattle.sp_words.specs.declared.types.Ty.{Ty}
use Rattle.sp_netlist.specs.declared.cell.CellOp.{CellOp}
use Rattle.sp_netlist.specs.declared.cell.CellShift.{CellShift}
use Rattle.sp_netlist.specs.Cells.{PlainCell, in_cell, out_cell, done_cell, const_cell, op_cell, not_cell, shift_cell, cast_cell, mux_cell, reg_cell, bank_cell, read_tap, write_tap, dram_cell, load_unit, store_unit}
use Rattle.sp_listing.specs.Text.{cell_words, op_text, shift_text, type_text}
use Rattle.sp_listing.specs.Reading.{IsFormed}
use Rattle.sp_listing.specs.Readers.{sign_text}
use Rattle.sp_listing.proofs.NumberLemmas.{below_word, width_small, dram_small, length_small, places_small, bits_small}
use Rattle.sp_listing.proofs.TextLemmas.{IsGraphic, graphic_all, graphic_name, graphic_decimal}
use Rattle.sp_listing.proofs.TypeLemmas.{counts_fit}

abbrev pub AreGraphic : List (List ℕ) → Type 0
AreGraphic = All (All IsGraphic)

none : AreGraphic []
none = All-nil (All IsGraphic)

also : (word : List ℕ) (words : List (List ℕ)) → All IsGraphic word → AreGraphic words → AreGraphic (word ∷ words)
also word words h others = All-cons (All IsGraphic) word words h others

graphic_sign : (signed : Bool) → All IsGraphic (sign_text signed)
graphic_sign true = graphic_all (codes "s") refl
graphic_sign false = graphic_all (codes "u") refl

graphic_type : (ty : Ty) → All IsGraphic (type_text ty)
graphic_type (Fix t) =
    let fit = counts_fit t in
    All-append IsGraphic (sign_text (fix_signed t)) (decimal (fix_whole t) ++ (codes "." ++ decimal (fix_frac t))) (graphic_sign (fix_signed t))
    (All-append IsGraphic (decimal (fix_whole t)) (codes "." ++ decimal (fix_frac t)) (graphic_decimal (fix_whole t) (bits_small (fix_whole t) fit.0))
    (All-append IsGraphic (codes ".") (decimal (fix_frac t)) (graphic_all (codes ".") refl) (graphic_decimal (fix_frac t) (bits_small (fix_frac t) fit.1))))
graphic_type Bit = graphic_all (codes "bit") refl

graphic_operator : (op : CellOp) → All IsGraphic (op_text op)
graphic_operator Add = graphic_all (codes "add") refl
graphic_operator Sub = graphic_all (codes "sub") refl
graphic_operator Mul = graphic_all (codes "mul") refl
graphic_operator Div = graphic_all (codes "div") refl
graphic_operator Rem = graphic_all (codes "rem") refl
graphic_operator And = graphic_all (codes "and") refl
graphic_operator Or = graphic_all (codes "or") refl
graphic_operator Xor = graphic_all (codes "xor") refl
graphic_operator Min = graphic_all (codes "min") refl
graphic_operator Max = graphic_all (codes "max") refl
graphic_operator Lt = graphic_all (codes "lt") refl
graphic_operator Eq = graphic_all (codes "eq") refl

graphic_side : (side : CellShift) → All IsGraphic (shift_text side)
graphic_side Shl = graphic_all (codes "shl") refl
graphic_side Shr = graphic_all (codes "shr") refl

graphic_dims : (dims : List ℕ) → All IsLength dims → AreGraphic (map decimal dims)
graphic_dims [] h = none
graphic_dims (d ∷ dims) h =
    also (decimal d) (map decimal dims) (graphic_decimal d (length_small d (All-head IsLength d dims h))) (graphic_dims dims (All-tail IsLength d dims h))

pub graphic_words : (cell : PlainCell) → IsFormed cell → AreGraphic (cell_words cell)
graphic_words (in_cell name net ty) f =
    also (codes "in") (name ∷ decimal net ∷ type_text ty ∷ []) (graphic_all (codes "in") refl) (also name (decimal net ∷ type_text ty ∷ []) (graphic_name name f.0) (also (decimal net) (type_text ty ∷ []) (graphic_decimal net f.1) (also (type_text ty) ([]) (graphic_type ty) (none))))
graphic_words (out_cell name net ty) f =
    also (codes "out") (name ∷ decimal net ∷ type_text ty ∷ []) (graphic_all (codes "out") refl) (also name (decimal net ∷ type_text ty ∷ []) (graphic_name name f.0) (also (decimal net) (type_text ty ∷ []) (graphic_decimal net f.1) (also (type_text ty) ([]) (graphic_type ty) (none))))
graphic_words (done_cell net) f =
    also (codes "done") (decimal net ∷ []) (graphic_all (codes "done") refl) (also (decimal net) ([]) (graphic_decimal net f) (none))
graphic_words (const_cell net width word) f =
    also (codes "const") (decimal net ∷ decimal width ∷ decimal word ∷ []) (graphic_all (codes "const") refl) (also (decimal net) (decimal width ∷ decimal word ∷ []) (graphic_decimal net f.0) (also (decimal width) (decimal word ∷ []) (graphic_decimal width (width_small width f.1)) (also (decimal word) ([]) (graphic_decimal word (below_word width word f.1.1 f.2)) (none))))
graphic_words (op_cell net ty op a b) f =
    also (codes "op") (decimal net ∷ type_text ty ∷ op_text op ∷ decimal a ∷ decimal b ∷ []) (graphic_all (codes "op") refl) (also (decimal net) (type_text ty ∷ op_text op ∷ decimal a ∷ decimal b ∷ []) (graphic_decimal net f.0) (also (type_text ty) (op_text op ∷ decimal a ∷ decimal b ∷ []) (graphic_type ty) (also (op_text op) (decimal a ∷ decimal b ∷ []) (graphic_operator op) (also (decimal a) (decimal b ∷ []) (graphic_decimal a f.1) (also (decimal b) ([]) (graphic_decimal b f.2) (none))))))
graphic_words (not_cell net ty a) f =
    also (codes "not") (decimal net ∷ type_text ty ∷ decimal a ∷ []) (graphic_all (codes "not") refl) (also (decimal net) (type_text ty ∷ decimal a ∷ []) (graphic_decimal net f.0) (also (type_text ty) (decimal a ∷ []) (graphic_type ty) (also (decimal a) ([]) (graphic_decimal a f.1) (none))))
graphic_words (shift_cell net ty side a places) f =
    also (codes "shift") (decimal net ∷ type_text ty ∷ shift_text side ∷ decimal a ∷ decimal places ∷ []) (graphic_all (codes "shift") refl) (also (decimal net) (type_text ty ∷ shift_text side ∷ decimal a ∷ decimal places ∷ []) (graphic_decimal net f.0) (also (type_text ty) (shift_text side ∷ decimal a ∷ decimal places ∷ []) (graphic_type ty) (also (shift_text side) (decimal a ∷ decimal places ∷ []) (graphic_side side) (also (decimal a) (decimal places ∷ []) (graphic_decimal a f.1) (also (decimal places) ([]) (graphic_decimal places (places_small places f.2)) (none))))))
graphic_words (cast_cell net from to a) f =
    also (codes "cast") (decimal net ∷ type_text from ∷ type_text to ∷ decimal a ∷ []) (graphic_all (codes "cast") refl) (also (decimal net) (type_text from ∷ type_text to ∷ decimal a ∷ []) (graphic_decimal net f.0) (also (type_text from) (type_text to ∷ decimal a ∷ []) (graphic_type from) (also (type_text to) (decimal a ∷ []) (graphic_type to) (also (decimal a) ([]) (graphic_decimal a f.1) (none)))))
graphic_words (mux_cell net width choice a b) f =
    also (codes "mux") (decimal net ∷ decimal width ∷ decimal choice ∷ decimal a ∷ decimal b ∷ []) (graphic_all (codes "mux") refl) (also (decimal net) (decimal width ∷ decimal choice ∷ decimal a ∷ decimal b ∷ []) (graphic_decimal net f.0) (also (decimal width) (decimal choice ∷ decimal a ∷ decimal b ∷ []) (graphic_decimal width (width_small width f.1)) (also (decimal choice) (decimal a ∷ decimal b ∷ []) (graphic_decimal choice f.2) (also (decimal a) (decimal b ∷ []) (graphic_decimal a f.3) (also (decimal b) ([]) (graphic_decimal b f.4) (none))))))
graphic_words (reg_cell net width first next enable) f =
    also (codes "reg") (decimal net ∷ decimal width ∷ decimal first ∷ decimal next ∷ decimal enable ∷ []) (graphic_all (codes "reg") refl) (also (decimal net) (decimal width ∷ decimal first ∷ decimal next ∷ decimal enable ∷ []) (graphic_decimal net f.0) (also (decimal width) (decimal first ∷ decimal next ∷ decimal enable ∷ []) (graphic_decimal width (width_small width f.1)) (also (decimal first) (decimal next ∷ decimal enable ∷ []) (graphic_decimal first (below_word width first f.1.1 f.2)) (also (decimal next) (decimal enable ∷ []) (graphic_decimal next f.3) (also (decimal enable) ([]) (graphic_decimal enable f.4) (none))))))
graphic_words (bank_cell bank width len) f =
    also (codes "bank") (decimal bank ∷ decimal width ∷ decimal len ∷ []) (graphic_all (codes "bank") refl) (also (decimal bank) (decimal width ∷ decimal len ∷ []) (graphic_decimal bank f.0) (also (decimal width) (decimal len ∷ []) (graphic_decimal width (width_small width f.1)) (also (decimal len) ([]) (graphic_decimal len (length_small len f.2)) (none))))
graphic_words (read_tap net bank enable addr) f =
    also (codes "read") (decimal net ∷ decimal bank ∷ decimal enable ∷ decimal addr ∷ []) (graphic_all (codes "read") refl) (also (decimal net) (decimal bank ∷ decimal enable ∷ decimal addr ∷ []) (graphic_decimal net f.0) (also (decimal bank) (decimal enable ∷ decimal addr ∷ []) (graphic_decimal bank f.1) (also (decimal enable) (decimal addr ∷ []) (graphic_decimal enable f.2) (also (decimal addr) ([]) (graphic_decimal addr f.3) (none)))))
graphic_words (write_tap bank enable addr word) f =
    also (codes "write") (decimal bank ∷ decimal enable ∷ decimal addr ∷ decimal word ∷ []) (graphic_all (codes "write") refl) (also (decimal bank) (decimal enable ∷ decimal addr ∷ decimal word ∷ []) (graphic_decimal bank f.0) (also (decimal enable) (decimal addr ∷ decimal word ∷ []) (graphic_decimal enable f.1) (also (decimal addr) (decimal word ∷ []) (graphic_decimal addr f.2) (also (decimal word) ([]) (graphic_decimal word f.3) (none)))))
graphic_words (dram_cell dram name ty dims) f =
    also (codes "dram") (decimal dram ∷ name ∷ type_text ty ∷ map decimal dims) (graphic_all (codes "dram") refl) (also (decimal dram) (name ∷ type_text ty ∷ map decimal dims) (graphic_decimal dram (dram_small dram f.0)) (also name (type_text ty ∷ map decimal dims) (graphic_name name f.1) (also (type_text ty) (map decimal dims) (graphic_type ty) (graphic_dims dims f.4))))
graphic_words (load_unit channel dram ready net request last addr) f =
    also (codes "load") (decimal channel ∷ decimal dram ∷ decimal ready ∷ decimal net ∷ decimal request ∷ decimal last ∷ decimal addr ∷ []) (graphic_all (codes "load") refl) (also (decimal channel) (decimal dram ∷ decimal ready ∷ decimal net ∷ decimal request ∷ decimal last ∷ decimal addr ∷ []) (graphic_decimal channel f.0) (also (decimal dram) (decimal ready ∷ decimal net ∷ decimal request ∷ decimal last ∷ decimal addr ∷ []) (graphic_decimal dram (dram_small dram f.1)) (also (decimal ready) (decimal net ∷ decimal request ∷ decimal last ∷ decimal addr ∷ []) (graphic_decimal ready f.2) (also (decimal net) (decimal request ∷ decimal last ∷ decimal addr ∷ []) (graphic_decimal net f.3) (also (decimal request) (decimal last ∷ decimal addr ∷ []) (graphic_decimal request f.4) (also (decimal last) (decimal addr ∷ []) (graphic_decimal last f.5) (also (decimal addr) ([]) (graphic_decimal addr f.6) (none))))))))
graphic_words (store_unit channel dram ready request last addr word) f =
    also (codes "store") (decimal channel ∷ decimal dram ∷ decimal ready ∷ decimal request ∷ decimal last ∷ decimal addr ∷ decimal word ∷ []) (graphic_all (codes "store") refl) (also (decimal channel) (decimal dram ∷ decimal ready ∷ decimal request ∷ decimal last ∷ decimal addr ∷ decimal word ∷ []) (graphic_decimal channel f.0) (also (decimal dram) (decimal ready ∷ decimal request ∷ decimal last ∷ decimal addr ∷ decimal word ∷ []) (graphic_decimal dram (dram_small dram f.1)) (also (decimal ready) (decimal request ∷ decimal last ∷ decimal addr ∷ decimal word ∷ []) (graphic_decimal ready f.2) (also (decimal request) (decimal last ∷ decimal addr ∷ decimal word ∷ []) (graphic_decimal request f.3) (also (decimal last) (decimal addr ∷ decimal word ∷ []) (graphic_decimal last f.4) (also (decimal addr) (decimal word ∷ []) (graphic_decimal addr f.5) (also (decimal word) ([]) (graphic_decimal word f.6) (none))))))))
