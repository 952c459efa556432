-- A line has at most one formed cell.
use Rattle.std.proofs.Common.{◌≡◌, ℕ, List, [], ◌∷◌, All, codes, decimal, map, refl, sym, ◌∙◌, ap, if◌then◌else◌}
use Rattle.std.specs.Str.{bytes_eq}
use Rattle.std.proofs.lemmas.Fmt.{decimal_injective}
use Rattle.std.proofs.lemmas.List.Elements.{All-head, All-tail}
use Rattle.sp_netlist.specs.declared.cell.CellOp.TheVariants.{Add, Sub, Mul, Div, Rem, And, Or, Xor, Min, Max, Lt, Eq}
use Rattle.sp_netlist.specs.declared.cell.CellShift.TheVariants.{Shl, Shr}
use Rattle.sp_netlist.specs.Rules.{IsLength}
use Rattle.sp_words.specs.declared.types.Ty.{Ty}
use Rattle.sp_netlist.specs.declared.cell.CellOp.{CellOp}
use Rattle.sp_netlist.specs.declared.cell.CellShift.{CellShift}
use Rattle.sp_netlist.specs.Cells.{PlainCell, in_cell, out_cell, done_cell, const_cell, op_cell, not_cell, shift_cell, cast_cell, mux_cell, reg_cell, bank_cell, read_tap, write_tap, dram_cell, load_unit, store_unit}
use Rattle.sp_listing.specs.declared.kind.Kind.{Kind}
use Rattle.sp_listing.specs.declared.kind.Kind.TheVariants.{In, Out, Done, Const, Op, Not, Shift, Cast, Mux, Reg, Bank, Read, Write, Dram, Load, Store}
use Rattle.sp_listing.specs.Text.{cell_words, op_text, shift_text, type_text}
use Rattle.sp_listing.specs.Reading.{IsFormed}
use Rattle.sp_listing.specs.Readers.{kind_text, kind_in, parts_of, tail_of}
use Rattle.sp_listing.proofs.NumberLemmas.{below_word, width_small, dram_small, length_small, places_small}
use Rattle.sp_listing.proofs.TypeLemmas.{same_type}
use Rattle.sp_listing.proofs.KindLemmas.{words_begin, of_input, of_output, of_done, of_constant, of_operator, of_not, of_shift, of_cast, of_mux, of_register, of_bank, of_read_tap, of_write_tap, of_memory, of_load, of_store}

-- the operator, the direction and the kind of a word, so that no two have one word
op_at : List ℕ → CellOp
op_at text =
    if bytes_eq text (codes "add") then Add else (
    if bytes_eq text (codes "sub") then Sub else (
    if bytes_eq text (codes "mul") then Mul else (
    if bytes_eq text (codes "div") then Div else (
    if bytes_eq text (codes "rem") then Rem else (
    if bytes_eq text (codes "and") then And else (
    if bytes_eq text (codes "or") then Or else (
    if bytes_eq text (codes "xor") then Xor else (
    if bytes_eq text (codes "min") then Min else (
    if bytes_eq text (codes "max") then Max else (
    if bytes_eq text (codes "lt") then Lt else (
    Eq)))))))))))

op_at-text : (op : CellOp) → op_at (op_text op) ≡ op
unfolding op_at
op_at-text Add = refl
op_at-text Sub = refl
op_at-text Mul = refl
op_at-text Div = refl
op_at-text Rem = refl
op_at-text And = refl
op_at-text Or = refl
op_at-text Xor = refl
op_at-text Min = refl
op_at-text Max = refl
op_at-text Lt = refl
op_at-text Eq = refl

pub same_operator : (a b : CellOp) → op_text a ≡ op_text b → a ≡ b
same_operator a b e = sym (op_at-text a) ∙ ap op_at e ∙ op_at-text b

side_at : List ℕ → CellShift
side_at text =
    if bytes_eq text (codes "shl") then Shl else (
    Shr)

side_at-text : (side : CellShift) → side_at (shift_text side) ≡ side
unfolding side_at
side_at-text Shl = refl
side_at-text Shr = refl

pub same_side : (a b : CellShift) → shift_text a ≡ shift_text b → a ≡ b
same_side a b e = sym (side_at-text a) ∙ ap side_at e ∙ side_at-text b

kind_at : List ℕ → Kind
kind_at text =
    if bytes_eq text (codes "in") then In else (
    if bytes_eq text (codes "out") then Out else (
    if bytes_eq text (codes "done") then Done else (
    if bytes_eq text (codes "const") then Const else (
    if bytes_eq text (codes "op") then Op else (
    if bytes_eq text (codes "not") then Not else (
    if bytes_eq text (codes "shift") then Shift else (
    if bytes_eq text (codes "cast") then Cast else (
    if bytes_eq text (codes "mux") then Mux else (
    if bytes_eq text (codes "reg") then Reg else (
    if bytes_eq text (codes "bank") then Bank else (
    if bytes_eq text (codes "read") then Read else (
    if bytes_eq text (codes "write") then Write else (
    if bytes_eq text (codes "dram") then Dram else (
    if bytes_eq text (codes "load") then Load else (
    Store)))))))))))))))

kind_at-text : (kind : Kind) → kind_at (kind_text kind) ≡ kind
unfolding kind_at
kind_at-text In = refl
kind_at-text Out = refl
kind_at-text Done = refl
kind_at-text Const = refl
kind_at-text Op = refl
kind_at-text Not = refl
kind_at-text Shift = refl
kind_at-text Cast = refl
kind_at-text Mux = refl
kind_at-text Reg = refl
kind_at-text Bank = refl
kind_at-text Read = refl
kind_at-text Write = refl
kind_at-text Dram = refl
kind_at-text Load = refl
kind_at-text Store = refl

pub same_kind : (a b : Kind) → kind_text a ≡ kind_text b → a ≡ b
same_kind a b e = sym (kind_at-text a) ∙ ap kind_at e ∙ kind_at-text b

-- lists of dimensions are one where their texts are
same_dims : (a b : List ℕ) → All IsLength a → All IsLength b → map decimal a ≡ map decimal b → a ≡ b
same_dims [] [] f g e = refl
same_dims [] (y ∷ ys) f g e = absurd cc
same_dims (x ∷ xs) [] f g e = absurd cc
same_dims (x ∷ xs) (y ∷ ys) f g e =
    let first : decimal x ≡ decimal y = cc in
    let others : map decimal xs ≡ map decimal ys = cc in
    let head : x ≡ y = decimal_injective x y (length_small x (All-head IsLength x xs f)) (length_small y (All-head IsLength y ys g)) first in
    let tail : xs ≡ ys = same_dims xs ys (All-tail IsLength x xs f) (All-tail IsLength y ys g) others in
    cc

one_input : (name : List ℕ) (net : ℕ) (ty : Ty) (name2 : List ℕ) (net2 : ℕ) (ty2 : Ty) → IsFormed (in_cell name net ty) → IsFormed (in_cell name2 net2 ty2) → parts_of (in_cell name net ty) ≡ parts_of (in_cell name2 net2 ty2) → in_cell name net ty ≡ in_cell name2 net2 ty2
one_input name net ty name2 net2 ty2 f g e =
    let net_text : decimal net ≡ decimal net2 = cc in
    let net_same : net ≡ net2 = decimal_injective net net2 f.1 g.1 net_text in
    let ty_text : type_text ty ≡ type_text ty2 = cc in
    let ty_same : ty ≡ ty2 = same_type ty ty2 ty_text in
    cc

one_output : (name : List ℕ) (net : ℕ) (ty : Ty) (name2 : List ℕ) (net2 : ℕ) (ty2 : Ty) → IsFormed (out_cell name net ty) → IsFormed (out_cell name2 net2 ty2) → parts_of (out_cell name net ty) ≡ parts_of (out_cell name2 net2 ty2) → out_cell name net ty ≡ out_cell name2 net2 ty2
one_output name net ty name2 net2 ty2 f g e =
    let net_text : decimal net ≡ decimal net2 = cc in
    let net_same : net ≡ net2 = decimal_injective net net2 f.1 g.1 net_text in
    let ty_text : type_text ty ≡ type_text ty2 = cc in
    let ty_same : ty ≡ ty2 = same_type ty ty2 ty_text in
    cc

one_done : (net : ℕ) (net2 : ℕ) → IsFormed (done_cell net) → IsFormed (done_cell net2) → parts_of (done_cell net) ≡ parts_of (done_cell net2) → done_cell net ≡ done_cell net2
one_done net net2 f g e =
    let net_text : decimal net ≡ decimal net2 = cc in
    let net_same : net ≡ net2 = decimal_injective net net2 f g net_text in
    cc

one_constant : (net width word : ℕ) (net2 width2 word2 : ℕ) → IsFormed (const_cell net width word) → IsFormed (const_cell net2 width2 word2) → parts_of (const_cell net width word) ≡ parts_of (const_cell net2 width2 word2) → const_cell net width word ≡ const_cell net2 width2 word2
one_constant net width word net2 width2 word2 f g e =
    let net_text : decimal net ≡ decimal net2 = cc in
    let net_same : net ≡ net2 = decimal_injective net net2 f.0 g.0 net_text in
    let width_text : decimal width ≡ decimal width2 = cc in
    let width_same : width ≡ width2 = decimal_injective width width2 (width_small width f.1) (width_small width2 g.1) width_text in
    let word_text : decimal word ≡ decimal word2 = cc in
    let word_same : word ≡ word2 = decimal_injective word word2 (below_word width word f.1.1 f.2) (below_word width2 word2 g.1.1 g.2) word_text in
    cc

one_operator : (net : ℕ) (ty : Ty) (op : CellOp) (a b : ℕ) (net2 : ℕ) (ty2 : Ty) (op2 : CellOp) (a2 b2 : ℕ) → IsFormed (op_cell net ty op a b) → IsFormed (op_cell net2 ty2 op2 a2 b2) → parts_of (op_cell net ty op a b) ≡ parts_of (op_cell net2 ty2 op2 a2 b2) → op_cell net ty op a b ≡ op_cell net2 ty2 op2 a2 b2
one_operator net ty op a b net2 ty2 op2 a2 b2 f g e =
    let net_text : decimal net ≡ decimal net2 = cc in
    let net_same : net ≡ net2 = decimal_injective net net2 f.0 g.0 net_text in
    let ty_text : type_text ty ≡ type_text ty2 = cc in
    let ty_same : ty ≡ ty2 = same_type ty ty2 ty_text in
    let op_text : op_text op ≡ op_text op2 = cc in
    let op_same : op ≡ op2 = same_operator op op2 op_text in
    let a_text : decimal a ≡ decimal a2 = cc in
    let a_same : a ≡ a2 = decimal_injective a a2 f.1 g.1 a_text in
    let b_text : decimal b ≡ decimal b2 = cc in
    let b_same : b ≡ b2 = decimal_injective b b2 f.2 g.2 b_text in
    cc

one_not : (net : ℕ) (ty : Ty) (a : ℕ) (net2 : ℕ) (ty2 : Ty) (a2 : ℕ) → IsFormed (not_cell net ty a) → IsFormed (not_cell net2 ty2 a2) → parts_of (not_cell net ty a) ≡ parts_of (not_cell net2 ty2 a2) → not_cell net ty a ≡ not_cell net2 ty2 a2
one_not net ty a net2 ty2 a2 f g e =
    let net_text : decimal net ≡ decimal net2 = cc in
    let net_same : net ≡ net2 = decimal_injective net net2 f.0 g.0 net_text in
    let ty_text : type_text ty ≡ type_text ty2 = cc in
    let ty_same : ty ≡ ty2 = same_type ty ty2 ty_text in
    let a_text : decimal a ≡ decimal a2 = cc in
    let a_same : a ≡ a2 = decimal_injective a a2 f.1 g.1 a_text in
    cc

one_shift : (net : ℕ) (ty : Ty) (side : CellShift) (a places : ℕ) (net2 : ℕ) (ty2 : Ty) (side2 : CellShift) (a2 places2 : ℕ) → IsFormed (shift_cell net ty side a places) → IsFormed (shift_cell net2 ty2 side2 a2 places2) → parts_of (shift_cell net ty side a places) ≡ parts_of (shift_cell net2 ty2 side2 a2 places2) → shift_cell net ty side a places ≡ shift_cell net2 ty2 side2 a2 places2
one_shift net ty side a places net2 ty2 side2 a2 places2 f g e =
    let net_text : decimal net ≡ decimal net2 = cc in
    let net_same : net ≡ net2 = decimal_injective net net2 f.0 g.0 net_text in
    let ty_text : type_text ty ≡ type_text ty2 = cc in
    let ty_same : ty ≡ ty2 = same_type ty ty2 ty_text in
    let side_text : shift_text side ≡ shift_text side2 = cc in
    let side_same : side ≡ side2 = same_side side side2 side_text in
    let a_text : decimal a ≡ decimal a2 = cc in
    let a_same : a ≡ a2 = decimal_injective a a2 f.1 g.1 a_text in
    let places_text : decimal places ≡ decimal places2 = cc in
    let places_same : places ≡ places2 = decimal_injective places places2 (places_small places f.2) (places_small places2 g.2) places_text in
    cc

one_cast : (net : ℕ) (from to : Ty) (a : ℕ) (net2 : ℕ) (from2 to2 : Ty) (a2 : ℕ) → IsFormed (cast_cell net from to a) → IsFormed (cast_cell net2 from2 to2 a2) → parts_of (cast_cell net from to a) ≡ parts_of (cast_cell net2 from2 to2 a2) → cast_cell net from to a ≡ cast_cell net2 from2 to2 a2
one_cast net from to a net2 from2 to2 a2 f g e =
    let net_text : decimal net ≡ decimal net2 = cc in
    let net_same : net ≡ net2 = decimal_injective net net2 f.0 g.0 net_text in
    let from_text : type_text from ≡ type_text from2 = cc in
    let from_same : from ≡ from2 = same_type from from2 from_text in
    let to_text : type_text to ≡ type_text to2 = cc in
    let to_same : to ≡ to2 = same_type to to2 to_text in
    let a_text : decimal a ≡ decimal a2 = cc in
    let a_same : a ≡ a2 = decimal_injective a a2 f.1 g.1 a_text in
    cc

one_mux : (net width choice a b : ℕ) (net2 width2 choice2 a2 b2 : ℕ) → IsFormed (mux_cell net width choice a b) → IsFormed (mux_cell net2 width2 choice2 a2 b2) → parts_of (mux_cell net width choice a b) ≡ parts_of (mux_cell net2 width2 choice2 a2 b2) → mux_cell net width choice a b ≡ mux_cell net2 width2 choice2 a2 b2
one_mux net width choice a b net2 width2 choice2 a2 b2 f g e =
    let net_text : decimal net ≡ decimal net2 = cc in
    let net_same : net ≡ net2 = decimal_injective net net2 f.0 g.0 net_text in
    let width_text : decimal width ≡ decimal width2 = cc in
    let width_same : width ≡ width2 = decimal_injective width width2 (width_small width f.1) (width_small width2 g.1) width_text in
    let choice_text : decimal choice ≡ decimal choice2 = cc in
    let choice_same : choice ≡ choice2 = decimal_injective choice choice2 f.2 g.2 choice_text in
    let a_text : decimal a ≡ decimal a2 = cc in
    let a_same : a ≡ a2 = decimal_injective a a2 f.3 g.3 a_text in
    let b_text : decimal b ≡ decimal b2 = cc in
    let b_same : b ≡ b2 = decimal_injective b b2 f.4 g.4 b_text in
    cc

one_register : (net width first next enable : ℕ) (net2 width2 first2 next2 enable2 : ℕ) → IsFormed (reg_cell net width first next enable) → IsFormed (reg_cell net2 width2 first2 next2 enable2) → parts_of (reg_cell net width first next enable) ≡ parts_of (reg_cell net2 width2 first2 next2 enable2) → reg_cell net width first next enable ≡ reg_cell net2 width2 first2 next2 enable2
one_register net width first next enable net2 width2 first2 next2 enable2 f g e =
    let net_text : decimal net ≡ decimal net2 = cc in
    let net_same : net ≡ net2 = decimal_injective net net2 f.0 g.0 net_text in
    let width_text : decimal width ≡ decimal width2 = cc in
    let width_same : width ≡ width2 = decimal_injective width width2 (width_small width f.1) (width_small width2 g.1) width_text in
    let first_text : decimal first ≡ decimal first2 = cc in
    let first_same : first ≡ first2 = decimal_injective first first2 (below_word width first f.1.1 f.2) (below_word width2 first2 g.1.1 g.2) first_text in
    let next_text : decimal next ≡ decimal next2 = cc in
    let next_same : next ≡ next2 = decimal_injective next next2 f.3 g.3 next_text in
    let enable_text : decimal enable ≡ decimal enable2 = cc in
    let enable_same : enable ≡ enable2 = decimal_injective enable enable2 f.4 g.4 enable_text in
    cc

one_bank : (bank width len : ℕ) (bank2 width2 len2 : ℕ) → IsFormed (bank_cell bank width len) → IsFormed (bank_cell bank2 width2 len2) → parts_of (bank_cell bank width len) ≡ parts_of (bank_cell bank2 width2 len2) → bank_cell bank width len ≡ bank_cell bank2 width2 len2
one_bank bank width len bank2 width2 len2 f g e =
    let bank_text : decimal bank ≡ decimal bank2 = cc in
    let bank_same : bank ≡ bank2 = decimal_injective bank bank2 f.0 g.0 bank_text in
    let width_text : decimal width ≡ decimal width2 = cc in
    let width_same : width ≡ width2 = decimal_injective width width2 (width_small width f.1) (width_small width2 g.1) width_text in
    let len_text : decimal len ≡ decimal len2 = cc in
    let len_same : len ≡ len2 = decimal_injective len len2 (length_small len f.2) (length_small len2 g.2) len_text in
    cc

one_read_tap : (net bank enable addr : ℕ) (net2 bank2 enable2 addr2 : ℕ) → IsFormed (read_tap net bank enable addr) → IsFormed (read_tap net2 bank2 enable2 addr2) → parts_of (read_tap net bank enable addr) ≡ parts_of (read_tap net2 bank2 enable2 addr2) → read_tap net bank enable addr ≡ read_tap net2 bank2 enable2 addr2
one_read_tap net bank enable addr net2 bank2 enable2 addr2 f g e =
    let net_text : decimal net ≡ decimal net2 = cc in
    let net_same : net ≡ net2 = decimal_injective net net2 f.0 g.0 net_text in
    let bank_text : decimal bank ≡ decimal bank2 = cc in
    let bank_same : bank ≡ bank2 = decimal_injective bank bank2 f.1 g.1 bank_text in
    let enable_text : decimal enable ≡ decimal enable2 = cc in
    let enable_same : enable ≡ enable2 = decimal_injective enable enable2 f.2 g.2 enable_text in
    let addr_text : decimal addr ≡ decimal addr2 = cc in
    let addr_same : addr ≡ addr2 = decimal_injective addr addr2 f.3 g.3 addr_text in
    cc

one_write_tap : (bank enable addr word : ℕ) (bank2 enable2 addr2 word2 : ℕ) → IsFormed (write_tap bank enable addr word) → IsFormed (write_tap bank2 enable2 addr2 word2) → parts_of (write_tap bank enable addr word) ≡ parts_of (write_tap bank2 enable2 addr2 word2) → write_tap bank enable addr word ≡ write_tap bank2 enable2 addr2 word2
one_write_tap bank enable addr word bank2 enable2 addr2 word2 f g e =
    let bank_text : decimal bank ≡ decimal bank2 = cc in
    let bank_same : bank ≡ bank2 = decimal_injective bank bank2 f.0 g.0 bank_text in
    let enable_text : decimal enable ≡ decimal enable2 = cc in
    let enable_same : enable ≡ enable2 = decimal_injective enable enable2 f.1 g.1 enable_text in
    let addr_text : decimal addr ≡ decimal addr2 = cc in
    let addr_same : addr ≡ addr2 = decimal_injective addr addr2 f.2 g.2 addr_text in
    let word_text : decimal word ≡ decimal word2 = cc in
    let word_same : word ≡ word2 = decimal_injective word word2 f.3 g.3 word_text in
    cc

one_memory : (dram : ℕ) (name : List ℕ) (ty : Ty) (dims : List ℕ) (dram2 : ℕ) (name2 : List ℕ) (ty2 : Ty) (dims2 : List ℕ) → IsFormed (dram_cell dram name ty dims) → IsFormed (dram_cell dram2 name2 ty2 dims2) → parts_of (dram_cell dram name ty dims) ≡ parts_of (dram_cell dram2 name2 ty2 dims2) → dram_cell dram name ty dims ≡ dram_cell dram2 name2 ty2 dims2
one_memory dram name ty dims dram2 name2 ty2 dims2 f g e =
    let dram_text : decimal dram ≡ decimal dram2 = cc in
    let dram_same : dram ≡ dram2 = decimal_injective dram dram2 (dram_small dram f.0) (dram_small dram2 g.0) dram_text in
    let ty_text : type_text ty ≡ type_text ty2 = cc in
    let ty_same : ty ≡ ty2 = same_type ty ty2 ty_text in
    let dims_text : map decimal dims ≡ map decimal dims2 = cc in
    let dims_same : dims ≡ dims2 = same_dims dims dims2 f.4 g.4 dims_text in
    cc

one_load : (channel dram ready net request last addr : ℕ) (channel2 dram2 ready2 net2 request2 last2 addr2 : ℕ) → IsFormed (load_unit channel dram ready net request last addr) → IsFormed (load_unit channel2 dram2 ready2 net2 request2 last2 addr2) → parts_of (load_unit channel dram ready net request last addr) ≡ parts_of (load_unit channel2 dram2 ready2 net2 request2 last2 addr2) → load_unit channel dram ready net request last addr ≡ load_unit channel2 dram2 ready2 net2 request2 last2 addr2
one_load channel dram ready net request last addr channel2 dram2 ready2 net2 request2 last2 addr2 f g e =
    let channel_text : decimal channel ≡ decimal channel2 = cc in
    let channel_same : channel ≡ channel2 = decimal_injective channel channel2 f.0 g.0 channel_text in
    let dram_text : decimal dram ≡ decimal dram2 = cc in
    let dram_same : dram ≡ dram2 = decimal_injective dram dram2 (dram_small dram f.1) (dram_small dram2 g.1) dram_text in
    let ready_text : decimal ready ≡ decimal ready2 = cc in
    let ready_same : ready ≡ ready2 = decimal_injective ready ready2 f.2 g.2 ready_text in
    let net_text : decimal net ≡ decimal net2 = cc in
    let net_same : net ≡ net2 = decimal_injective net net2 f.3 g.3 net_text in
    let request_text : decimal request ≡ decimal request2 = cc in
    let request_same : request ≡ request2 = decimal_injective request request2 f.4 g.4 request_text in
    let last_text : decimal last ≡ decimal last2 = cc in
    let last_same : last ≡ last2 = decimal_injective last last2 f.5 g.5 last_text in
    let addr_text : decimal addr ≡ decimal addr2 = cc in
    let addr_same : addr ≡ addr2 = decimal_injective addr addr2 f.6 g.6 addr_text in
    cc

one_store : (channel dram ready request last addr word : ℕ) (channel2 dram2 ready2 request2 last2 addr2 word2 : ℕ) → IsFormed (store_unit channel dram ready request last addr word) → IsFormed (store_unit channel2 dram2 ready2 request2 last2 addr2 word2) → parts_of (store_unit channel dram ready request last addr word) ≡ parts_of (store_unit channel2 dram2 ready2 request2 last2 addr2 word2) → store_unit channel dram ready request last addr word ≡ store_unit channel2 dram2 ready2 request2 last2 addr2 word2
one_store channel dram ready request last addr word channel2 dram2 ready2 request2 last2 addr2 word2 f g e =
    let channel_text : decimal channel ≡ decimal channel2 = cc in
    let channel_same : channel ≡ channel2 = decimal_injective channel channel2 f.0 g.0 channel_text in
    let dram_text : decimal dram ≡ decimal dram2 = cc in
    let dram_same : dram ≡ dram2 = decimal_injective dram dram2 (dram_small dram f.1) (dram_small dram2 g.1) dram_text in
    let ready_text : decimal ready ≡ decimal ready2 = cc in
    let ready_same : ready ≡ ready2 = decimal_injective ready ready2 f.2 g.2 ready_text in
    let request_text : decimal request ≡ decimal request2 = cc in
    let request_same : request ≡ request2 = decimal_injective request request2 f.3 g.3 request_text in
    let last_text : decimal last ≡ decimal last2 = cc in
    let last_same : last ≡ last2 = decimal_injective last last2 f.4 g.4 last_text in
    let addr_text : decimal addr ≡ decimal addr2 = cc in
    let addr_same : addr ≡ addr2 = decimal_injective addr addr2 f.5 g.5 addr_text in
    let word_text : decimal word ≡ decimal word2 = cc in
    let word_same : word ≡ word2 = decimal_injective word word2 f.6 g.6 word_text in
    cc

-- cells of one kind with the same parts are one
same_parts : (a b : PlainCell) → IsFormed a → IsFormed b → kind_in b ≡ kind_in a → parts_of a ≡ parts_of b → a ≡ b
same_parts (in_cell name net ty) other f g k e = of_input (λ c. IsFormed c → parts_of (in_cell name net ty) ≡ parts_of c → in_cell name net ty ≡ c) (λ name2 net2 ty2 g e. one_input name net ty name2 net2 ty2 f g e) other k g e
same_parts (out_cell name net ty) other f g k e = of_output (λ c. IsFormed c → parts_of (out_cell name net ty) ≡ parts_of c → out_cell name net ty ≡ c) (λ name2 net2 ty2 g e. one_output name net ty name2 net2 ty2 f g e) other k g e
same_parts (done_cell net) other f g k e = of_done (λ c. IsFormed c → parts_of (done_cell net) ≡ parts_of c → done_cell net ≡ c) (λ net2 g e. one_done net net2 f g e) other k g e
same_parts (const_cell net width word) other f g k e = of_constant (λ c. IsFormed c → parts_of (const_cell net width word) ≡ parts_of c → const_cell net width word ≡ c) (λ net2 width2 word2 g e. one_constant net width word net2 width2 word2 f g e) other k g e
same_parts (op_cell net ty op a b) other f g k e = of_operator (λ c. IsFormed c → parts_of (op_cell net ty op a b) ≡ parts_of c → op_cell net ty op a b ≡ c) (λ net2 ty2 op2 a2 b2 g e. one_operator net ty op a b net2 ty2 op2 a2 b2 f g e) other k g e
same_parts (not_cell net ty a) other f g k e = of_not (λ c. IsFormed c → parts_of (not_cell net ty a) ≡ parts_of c → not_cell net ty a ≡ c) (λ net2 ty2 a2 g e. one_not net ty a net2 ty2 a2 f g e) other k g e
same_parts (shift_cell net ty side a places) other f g k e = of_shift (λ c. IsFormed c → parts_of (shift_cell net ty side a places) ≡ parts_of c → shift_cell net ty side a places ≡ c) (λ net2 ty2 side2 a2 places2 g e. one_shift net ty side a places net2 ty2 side2 a2 places2 f g e) other k g e
same_parts (cast_cell net from to a) other f g k e = of_cast (λ c. IsFormed c → parts_of (cast_cell net from to a) ≡ parts_of c → cast_cell net from to a ≡ c) (λ net2 from2 to2 a2 g e. one_cast net from to a net2 from2 to2 a2 f g e) other k g e
same_parts (mux_cell net width choice a b) other f g k e = of_mux (λ c. IsFormed c → parts_of (mux_cell net width choice a b) ≡ parts_of c → mux_cell net width choice a b ≡ c) (λ net2 width2 choice2 a2 b2 g e. one_mux net width choice a b net2 width2 choice2 a2 b2 f g e) other k g e
same_parts (reg_cell net width first next enable) other f g k e = of_register (λ c. IsFormed c → parts_of (reg_cell net width first next enable) ≡ parts_of c → reg_cell net width first next enable ≡ c) (λ net2 width2 first2 next2 enable2 g e. one_register net width first next enable net2 width2 first2 next2 enable2 f g e) other k g e
same_parts (bank_cell bank width len) other f g k e = of_bank (λ c. IsFormed c → parts_of (bank_cell bank width len) ≡ parts_of c → bank_cell bank width len ≡ c) (λ bank2 width2 len2 g e. one_bank bank width len bank2 width2 len2 f g e) other k g e
same_parts (read_tap net bank enable addr) other f g k e = of_read_tap (λ c. IsFormed c → parts_of (read_tap net bank enable addr) ≡ parts_of c → read_tap net bank enable addr ≡ c) (λ net2 bank2 enable2 addr2 g e. one_read_tap net bank enable addr net2 bank2 enable2 addr2 f g e) other k g e
same_parts (write_tap bank enable addr word) other f g k e = of_write_tap (λ c. IsFormed c → parts_of (write_tap bank enable addr word) ≡ parts_of c → write_tap bank enable addr word ≡ c) (λ bank2 enable2 addr2 word2 g e. one_write_tap bank enable addr word bank2 enable2 addr2 word2 f g e) other k g e
same_parts (dram_cell dram name ty dims) other f g k e = of_memory (λ c. IsFormed c → parts_of (dram_cell dram name ty dims) ≡ parts_of c → dram_cell dram name ty dims ≡ c) (λ dram2 name2 ty2 dims2 g e. one_memory dram name ty dims dram2 name2 ty2 dims2 f g e) other k g e
same_parts (load_unit channel dram ready net request last addr) other f g k e = of_load (λ c. IsFormed c → parts_of (load_unit channel dram ready net request last addr) ≡ parts_of c → load_unit channel dram ready net request last addr ≡ c) (λ channel2 dram2 ready2 net2 request2 last2 addr2 g e. one_load channel dram ready net request last addr channel2 dram2 ready2 net2 request2 last2 addr2 f g e) other k g e
same_parts (store_unit channel dram ready request last addr word) other f g k e = of_store (λ c. IsFormed c → parts_of (store_unit channel dram ready request last addr word) ≡ parts_of c → store_unit channel dram ready request last addr word ≡ c) (λ channel2 dram2 ready2 request2 last2 addr2 word2 g e. one_store channel dram ready request last addr word channel2 dram2 ready2 request2 last2 addr2 word2 f g e) other k g e

-- the words of a line are those of one formed cell
pub same_cell : (a b : PlainCell) → IsFormed a → IsFormed b → cell_words a ≡ cell_words b → a ≡ b
same_cell a b f g e =
    let begins : kind_text (kind_in a) ∷ parts_of a ≡ kind_text (kind_in b) ∷ parts_of b = sym (words_begin a) ∙ e ∙ words_begin b in
    let first : kind_text (kind_in b) ≡ kind_text (kind_in a) = cc in
    same_parts a b f g (same_kind (kind_in b) (kind_in a) first) (ap tail_of e)
